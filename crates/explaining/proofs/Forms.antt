-- A node record that keeps the rules of its form is a node, and one that is a node keeps them; such a node fits exactly if it keeps the rules of calls.
use Rattle.std.proofs.Common.{◌≡◌, ℕ, ◌%◌, ◌<◌, true, ◌||◌, eqb, ltb, leb, Some, None, Option, refl, ◌∙◌, inl, inr, arith}
use Rattle.std.proofs.lemmas.Bool.{cases_eq, cond-true, lt-ltb}
use Rattle.std.proofs.lemmas.Bool.Decides.{nat_tests}
use Rattle.model.specs.declared.Kind.{Kind}
use Rattle.model.specs.declared.Kind.TheVariants.{Nop, Call, Check, Return}
use Rattle.model.specs.declared.Node.{Node}
use Rattle.model.specs.Program.{is_return}
use Rattle.recipe.specs.Bytes.{kind_of, with_mark}
use Rattle.recipe.specs.Offence.{first_offence, kind_fits}
use Rattle.recipe.proofs.Decoding.{Told, is_nop, is_call, is_check_lem, is_return_lem}
use Rattle.recipe.proofs.Firsts.{passed}
use Rattle.explaining.specs.declared.explanation.Fields.{Fields}
use Rattle.explaining.specs.Rules.{form_rules, call_rules}

module _ (f : Fields) where
  abbrev pub Tells : Kind → Type 0
  Tells k = Told f.kind f.flags f.callee f.grant f.accept k

  abbrev pub said_kind : Option Kind
  said_kind = kind_of f.kind f.flags f.callee f.grant f.accept

  -- what a kind tells of the fields makes them say it
  pub says : (k : Kind) → Tells k → said_kind ≡ Some k
  says _ (is_nop a b c d e) = grind (arith, nat_tests)
  says _ (is_call a b) = grind (arith, nat_tests)
  says _ (is_check_lem a b c d) = grind (arith, nat_tests)
  says _ (is_return_lem a b c d e) = grind (arith, nat_tests)

  -- the rules of the form, where a kind is told and the mark is one of 32
  pub keeps_form : (k : Kind) → Tells k → f.mark < 32 → first_offence (form_rules f) ≡ None
  unfolding first_offence form_rules
  keeps_form _ (is_nop a b c d e) m = grind (arith, nat_tests)
  keeps_form _ (is_call a b) m = grind (arith, nat_tests)
  keeps_form _ (is_check_lem a b c d) m = grind (arith, nat_tests)
  keeps_form _ (is_return_lem a b c d e) m = grind (arith, nat_tests)

  -- a call fits its method's rights exactly if it keeps the rules of calls
  pub fits_calls : (methods rights : ℕ) (k : Kind) → Tells k → kind_fits methods rights k ≡ true → first_offence (call_rules methods rights f) ≡ None
  unfolding first_offence call_rules
  fits_calls methods rights _ (is_nop a b c d e) h = grind (arith, nat_tests)
  fits_calls methods rights _ (is_call a b) h = grind (arith, nat_tests)
  fits_calls methods rights _ (is_check_lem a b c d) h = grind (arith, nat_tests)
  fits_calls methods rights _ (is_return_lem a b c d e) h = grind (arith, nat_tests)

  pub calls_fit : (methods rights : ℕ) (k : Kind) → Tells k → first_offence (call_rules methods rights f) ≡ None → kind_fits methods rights k ≡ true
  unfolding first_offence call_rules
  calls_fit methods rights _ (is_nop a b c d e) h = refl
  calls_fit methods rights _ (is_call a b) h = grind (arith, nat_tests)
  calls_fit methods rights _ (is_check_lem a b c d) h = refl
  calls_fit methods rights _ (is_return_lem a b c d e) h = refl

  abbrev pub decoded : Option Node
  decoded = with_mark said_kind f.mark f.flags

  -- what is known of a record that keeps the rules of its form
  pub record Formed : Type 0 where
    pub kind : Kind
    pub few : f.mark < 32
    pub tells : Tells kind

  pub formed : first_offence (form_rules f) ≡ None → Formed
  unfolding form_rules
  formed h =
      let a = passed _ _ _ h in
      let b = passed _ _ _ a.1 in
      let c = passed _ _ _ b.1 in
      let d = passed _ _ _ c.1 in
      let e = passed _ _ _ d.1 in
      let g = passed _ _ _ e.1 in
      let i = passed _ _ _ g.1 in
      by a.0 b.0 c.0 d.0 e.0 g.0 i.0
    where
      by : ltb f.kind 4 ≡ true → ltb f.mark 32 ≡ true → ltb f.flags 4 ≡ true → (eqb f.kind 1 || ltb f.flags 2) ≡ true → (eqb f.kind 1 || eqb f.callee 0) ≡ true
          → (eqb f.kind 1 || (eqb f.kind 2 || eqb f.grant 0)) ≡ true → (eqb f.kind 1 || eqb f.accept 0) ≡ true → Formed
      by a b c d e g i = elim (cases_eq f.kind 0) [
        | inl z ↦ record { kind = Nop; few = grind (arith, nat_tests); tells = is_nop z (grind (arith, nat_tests)) (grind (arith, nat_tests)) (grind (arith, nat_tests)) (grind (arith, nat_tests)) }
        | inr z ↦ elim (cases_eq f.kind 1) [
          | inl o ↦ record { kind = Call f.callee f.grant f.accept (leb 2 f.flags); few = grind (arith, nat_tests); tells = is_call o (grind (arith, nat_tests)) }
          | inr o ↦ elim (cases_eq f.kind 2) [
            | inl t ↦ record { kind = Check f.grant; few = grind (arith, nat_tests); tells = is_check_lem t (grind (arith, nat_tests)) (grind (arith, nat_tests)) (grind (arith, nat_tests)) }
            | inr t ↦ record { kind = Return; few = grind (arith, nat_tests); tells = is_return_lem (grind (arith, nat_tests)) (grind (arith, nat_tests)) (grind (arith, nat_tests)) (grind (arith, nat_tests)) (grind (arith, nat_tests)) }
          ]
        ]
      ]

  -- such a record is a node
  pub is_node : (h : Formed) → decoded ≡ Some (record { kind = h.kind; mark = f.mark; entry = eqb (f.flags % 2) 1 })
  is_node h =
      (λ i. with_mark (says h.kind h.tells i) f.mark f.flags)
      ∙ cond-true (ltb f.mark 32) (Some (record { kind = h.kind; mark = f.mark; entry = eqb (f.flags % 2) 1 })) None (lt-ltb f.mark 32 h.few)

  -- of the kinds only a return has the number 3
  pub return_kind : (k : Kind) → Tells k → is_return k ≡ eqb f.kind 3
  return_kind _ (is_nop a b c d e) = grind (arith, nat_tests)
  return_kind _ (is_call a b) = grind (arith, nat_tests)
  return_kind _ (is_check_lem a b c d) = grind (arith, nat_tests)
  return_kind _ (is_return_lem a b c d e) = grind (arith, nat_tests)
