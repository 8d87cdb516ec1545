use Rattle.std.proofs.Common.{ℕ, List, take, is_ok, length}
use Rattle.std.proofs.lemmas.Bool.Decides.{Decides-like}
use Rattle.model.proofs.Standing.{edges_obey}
use Rattle.recipe.proofs.Writes.{stands_with}
use Rattle.rules.specs.Subjects.{setting_of}
use Rattle.walker.specs.Accepted.{Enough}
use Rattle.walker.proofs.Traces.{modelled}
use Rattle.walker.proofs.replaying.replay_modelled.Goals as goal

pub returns : goal.returns
returns g c =
    let X = setting_of g.R.AccessRule.meaning g.W.Watch.watching c.args.on.now (take 4096 c.args.edges.now) in
    let law = stands_with c.args.on.now.recipe.now c.args.edges.now in
    let agrees = λ (t : List ℕ). g.met.R.Modelled.agrees c.args.on.now.rule.now X.program X.edges X.edges X.watch t law (edges_obey X.program X.edges law) in
    let ns = c.args.nodes.now in
    let done = c.replay.ensures in
    let accepts = λ (enough : Enough X.program X.edges X.rule X.watch ns (length c.args.stack.now)). Decides-like (is_ok c.replay.result) (agrees ns).1 (agrees ns).0 (done.accepts enough) in
    record {
      answer = done.answer;
      frames = done.frames;
      accepts = accepts;
      decides = λ fits. accepts (done.enough fits);
      told = modelled X.program X.edges X.rule X.watch (g.R.Modelled.traces X.program X.edges) agrees ns c.replay.new.stack (length c.args.stack.now) c.replay.auto.stack c.replay.result done.told;
    }
