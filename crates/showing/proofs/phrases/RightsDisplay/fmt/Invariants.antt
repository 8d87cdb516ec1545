use Rattle.std.proofs.Common.{◌≡◌}
use Rattle.std.specs.Fmt.{HasWritten, IsPlainFormatter}
use denote.Text.{Utf8}
use denote.Shadow.{shadow}
use Rattle.showing.specs.Phrases.{rights_below, spaced}
use Rattle.showing.proofs.Rows.{gap_after}
use Rattle.showing.proofs.phrases.RightsDisplay.fmt.Given as goal

-- the rights so far are written, and the gap is what stands before the next
abbrev pub invariant-loop-right : goal.invariant-loop-right
invariant-loop-right g l = record {
  written : IsPlainFormatter l.initial.f → HasWritten g.W.Write.write_str_gives l.initial.f (spaced (rights_below l.self.0 l.right-counter)) l.f;
  gap : l.gap ≡ gap_after (rights_below l.self.0 l.right-counter);
  text : shadow (Utf8 l.gap);
}
