use Rattle.std.proofs.Common.{◌≡◌, ◌-◌, ◌≤◌, [], ◌++◌, length, take, replicate, vec_len, ap, ◌∙◌, arith}
use Rattle.recipe.specs.Format.{word}
use Rattle.samples.specs.Building.{cut, words, blank_bytes}
use Rattle.samples.proofs.Lists.{all_taken, filled}
use Rattle.samples.proofs.building.blank.Goals as goal

pub returns : goal.returns
unfolding blank_bytes
returns c =
    let ws = words c.args.contents in
    let eight : length c.args.contents ≤ c.loop-n.n-index = omega arith in
    let written : c.loop-n.file.items ≡ ws = all_taken (λ n. word (cut n)) [] c.loop-n.file.items c.args.contents c.loop-n.n-index eight c.loop-n.invariant in
    let long : vec_len c.loop-n.file ≡ length ws = c.loop-n.file.ok.0 ∙ ap length written in
    c.in_ok-resize.ensures.items ∙ (λ i. take c.args.len (written i) ++ replicate (c.args.len - long i) 0) ∙ filled ws c.args.len
