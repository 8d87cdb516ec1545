-- What an answer of take or check says of the file's legality.
use Rattle.std.proofs.Common.{◌≡◌, ℕ, true, List, is_ok, is_err, Some, None, Ok, Err, Decides, Result, sym, refl, ◌∙◌}
use Rattle.std.specs.Result.{result_err}
use Rattle.recipe.specs.declared.grounds.Refusal.{Refusal}
use Rattle.recipe.specs.Format.{Legal}
use Rattle.recipe.specs.Offence.{first_offence, take_tests, check_tests}
use Rattle.recipe.proofs.Decoding.{Small}
use Rattle.recipe.proofs.ReadBack.{legal_passes}
use Rattle.recipe.proofs.WriteBack.{Taken, checked, legal}

ok_from_none : {T : Type 0} (r : Result T Refusal) → result_err r ≡ None → is_ok r ≡ true
ok_from_none (Ok x) e = refl
ok_from_none (Err y) e = cc

none_from_ok : {T : Type 0} (r : Result T Refusal) → is_ok r ≡ true → result_err r ≡ None
none_from_ok (Ok x) e = refl
none_from_ok (Err y) e = cc

-- a legal file is taken
pub legal_taken : {T : Type 0} (bs : List ℕ) (r : Result T Refusal) → result_err r ≡ first_offence (take_tests bs) → Legal bs → is_ok r ≡ true
legal_taken bs r e l = ok_from_none r (e ∙ (legal_passes bs l).0)

-- of the files that were taken, exactly the legal ones are checked
pub legal_checked : {T : Type 0} (bs : List ℕ) (r : Result T Refusal) → Small bs → Taken bs → result_err r ≡ first_offence (check_tests bs) → Decides (is_ok r) (Legal bs)
legal_checked bs r s t e = (λ o. legal bs s t (checked bs (sym e ∙ none_from_ok r o)), λ l. ok_from_none r (e ∙ (legal_passes bs l).1))

-- a file that take refuses is not legal
pub untaken : {T : Type 0} (bs : List ℕ) (r : Result T Refusal) (x : Refusal) → is_err r ≡ true → Some x ≡ first_offence (take_tests bs) → Decides (is_ok r) (Legal bs)
untaken bs (Ok y) x e refused = cc
untaken bs (Err y) x e refused = (λ o. cc, λ l. let none = (legal_passes bs l).0 in cc)
