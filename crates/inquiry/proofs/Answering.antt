-- The answers of calls that are not refused.
use Rattle.std.proofs.Common.{◌≡◌, length, Ok, sym, ap, ◌∙◌}
use Rattle.std.proofs.lemmas.List.{length-take-le}
use Rattle.inquiry.specs.declared.Inquiry.{Inquiry}
use Rattle.inquiry.specs.Calls.{Allowed, unless}
use Rattle.inquiry.specs.Inquiries.{state_of}
use Rattle.inquiry.proofs.Looking.{rows_fit}

-- a call that is not refused leaves what it makes
pub leaves_new : {A : Type 0} (o : Allowed) (a new old : A) → Ok tt ≡ o → a ≡ new → a ≡ unless o new old
leaves_new o a new old ok e = e ∙ ap (λ x. unless x new old) ok

-- how many facts a table holds
pub held_is : (t : Inquiry) → t.held ≡ length (state_of t).rows
held_is t = sym (length-take-le t.held t.facts.now (rows_fit t))
