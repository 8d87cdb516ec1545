use Rattle.std.proofs.Common.{length, take}
use Rattle.rules.specs.Subjects.{setting_of}
use Rattle.walker.proofs.Walks.{told_so, accepts_so, enough_room}
use Rattle.walker.proofs.replaying.replay.Goals as goal

pub returns : goal.returns
returns g c =
    let X = setting_of g.R.AccessRule.meaning g.W.Watch.watching c.args.on.now (take 4096 c.args.edges.now) in
    let done = c.walk_along.ensures in
    record {
      answer = done.answer;
      frames = done.frames;
      told = told_so X.program X.edges X.rule X.watch c.args.nodes.now c.args.stack.now c.walk_along.result c.walk_along.new.stack done.answer done.frames;
      accepts = accepts_so X.program X.edges X.rule X.watch c.args.nodes.now c.args.stack.now c.walk_along.result c.walk_along.new.stack done.answer done.frames;
      enough = enough_room X.program X.edges X.rule X.watch c.args.nodes.now (length c.args.stack.now);
    }
