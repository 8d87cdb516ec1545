-- What a node record of eight bytes says, and that it is the bytes written for the node that it says.
use Rattle.std.proofs.Common.{◌≡◌, ℕ, ◌+◌, ◌*◌, ◌/◌, ◌%◌, ◌<◌, Bool, true, false, cond, ◌&&◌, eqb, ltb, leb, ◌⊎◌, List, [], ◌∷◌, get_or, Some, None, Option, sym, refl, ap, ◌∙◌, subst, inl, inr, arith}
use Rattle.std.proofs.lemmas.Bool.{ltb-true, eqb-true}
use Rattle.std.proofs.lemmas.Option.{cond_some}
use Rattle.std.proofs.lemmas.Bool.Decides.{nat_tests}
use Rattle.model.specs.declared.Kind.{Kind}
use Rattle.model.specs.declared.Kind.TheVariants.{Nop, Call, Check, Return}
use Rattle.model.specs.declared.Node.{Node}
use Rattle.recipe.specs.Bytes.{byte_at, kind_of, with_mark, record_of, record_at}
use Rattle.recipe.specs.Format.{word, node_bytes}

-- each byte is below 256
abbrev pub Small : List ℕ → Type 0
Small bs = (i : ℕ) → get_or bs i 0 < 256

-- what a cond tells
cond_either : {A : Type 0} (b : Bool) (o p q : Option A) → cond b o p ≡ q → ((b ≡ true) × (o ≡ q)) ⊎ ((b ≡ false) × (p ≡ q))
cond_either true o p q e = inl (refl, e)
cond_either false o p q e = inr (refl, e)

-- what a node record's numbers are, by the kind that they say
pub data Told (kind flags callee grant accept : ℕ) : Kind → Type 0 where
  is_nop : kind ≡ 0 → flags < 2 → callee ≡ 0 → grant ≡ 0 → accept ≡ 0 → Told kind flags callee grant accept Nop
  is_call : kind ≡ 1 → flags < 4 → Told kind flags callee grant accept (Call callee grant accept (leb 2 flags))
  is_check_lem : kind ≡ 2 → flags < 2 → callee ≡ 0 → accept ≡ 0 → Told kind flags callee grant accept (Check grant)
  is_return_lem : kind ≡ 3 → flags < 2 → callee ≡ 0 → grant ≡ 0 → accept ≡ 0 → Told kind flags callee grant accept Return

module _ (kind flags callee grant accept : ℕ) (k : Kind) where
  abbrev Tells : Type 0
  Tells = Told kind flags callee grant accept k

  told_nop : kind ≡ 0 → cond (ltb flags 2 && (eqb callee 0 && (eqb grant 0 && eqb accept 0))) (Some Nop) None ≡ Some k → Tells
  told_nop z e =
      let h = cond_some (ltb flags 2 && (eqb callee 0 && (eqb grant 0 && eqb accept 0))) Nop k e in
      let t = h.0 in
      subst (λ k. Told kind flags callee grant accept k) h.1 (is_nop z (grind (arith, nat_tests)) (grind (arith, nat_tests)) (grind (arith, nat_tests)) (grind (arith, nat_tests)))

  told_call : kind ≡ 1 → cond (ltb flags 4) (Some (Call callee grant accept (leb 2 flags))) None ≡ Some k → Tells
  told_call z e =
      let h = cond_some (ltb flags 4) (Call callee grant accept (leb 2 flags)) k e in
      subst (λ k. Told kind flags callee grant accept k) h.1 (is_call z (ltb-true flags 4 h.0))

  told_check : kind ≡ 2 → cond (ltb flags 2 && (eqb callee 0 && eqb accept 0)) (Some (Check grant)) None ≡ Some k → Tells
  told_check z e =
      let h = cond_some (ltb flags 2 && (eqb callee 0 && eqb accept 0)) (Check grant) k e in
      let t = h.0 in
      subst (λ k. Told kind flags callee grant accept k) h.1 (is_check_lem z (grind (arith, nat_tests)) (grind (arith, nat_tests)) (grind (arith, nat_tests)))

  told_return : kind ≡ 3 → cond (ltb flags 2 && (eqb callee 0 && (eqb grant 0 && eqb accept 0))) (Some Return) None ≡ Some k → Tells
  told_return z e =
      let h = cond_some (ltb flags 2 && (eqb callee 0 && (eqb grant 0 && eqb accept 0))) Return k e in
      let t = h.0 in
      subst (λ k. Told kind flags callee grant accept k) h.1 (is_return_lem z (grind (arith, nat_tests)) (grind (arith, nat_tests)) (grind (arith, nat_tests)) (grind (arith, nat_tests)))

  -- a kind that a record says leaves at 0 what it does not use
  pub kind_told : kind_of kind flags callee grant accept ≡ Some k → Tells
  kind_told e =
      elim (cond_either (eqb kind 0) _ _ (Some k) e) [
        | inl h ↦ told_nop (eqb-true kind 0 h.0) h.1
        | inr h ↦ elim (cond_either (eqb kind 1) _ _ (Some k) h.1) [
          | inl h ↦ told_call (eqb-true kind 1 h.0) h.1
          | inr h ↦ elim (cond_either (eqb kind 2) _ _ (Some k) h.1) [
            | inl h ↦ told_check (eqb-true kind 2 h.0) h.1
            | inr h ↦ elim (cond_either (eqb kind 3) _ _ (Some k) h.1) [
              | inl h ↦ told_return (eqb-true kind 3 h.0) h.1
              | inr h ↦ let h1 = h.1 in cc
            ]
          ]
        ]
      ]

-- the same of a record of eight bytes
pub record RecordTold (kind mark flags callee g1 g0 a1 a0 : ℕ) (n : Node) : Type 0 where
  pub few : mark < 32
  pub mark_is : n.mark ≡ mark
  pub entry_is : n.entry ≡ eqb (flags % 2) 1
  pub kind_is : Told kind flags callee (g1 * 256 + g0) (a1 * 256 + a0) n.kind

pub record_told : (kind mark flags callee g1 g0 a1 a0 : ℕ) (n : Node) → record_of kind mark flags callee g1 g0 a1 a0 ≡ Some n → RecordTold kind mark flags callee g1 g0 a1 a0 n
record_told kind mark flags callee g1 g0 a1 a0 n e = split (kind_of kind flags callee (g1 * 256 + g0) (a1 * 256 + a0)) refl e
  where
    split : (o : Option Kind) → kind_of kind flags callee (g1 * 256 + g0) (a1 * 256 + a0) ≡ o → with_mark o mark flags ≡ Some n → RecordTold kind mark flags callee g1 g0 a1 a0 n
    split None k e = cc
    split (Some k) f e =
        let h = cond_some (ltb mark 32) _ n e in
        record {
          few = ltb-true mark 32 h.0;
          mark_is = sym (ap (λ (n : Node). n.mark) h.1);
          entry_is = sym (ap (λ (n : Node). n.entry) h.1);
          kind_is = subst (λ k. Told kind flags callee (g1 * 256 + g0) (a1 * 256 + a0) k) (ap (λ (n : Node). n.kind) h.1) (kind_told kind flags callee (g1 * 256 + g0) (a1 * 256 + a0) k f);
        }

-- flags below 2 are the entry flag, and below 4 that and the privileged flag
one_flag : (flags : ℕ) → flags < 2 → cond (eqb (flags % 2) 1) 1 0 ≡ flags
one_flag flags lt = grind (arith, nat_tests)

two_flags : (flags : ℕ) → flags < 4 → cond (eqb (flags % 2) 1) 1 0 + cond (leb 2 flags) 2 0 ≡ flags
two_flags flags lt = grind (arith, nat_tests)

-- a number of two bytes is written as these two
pub high_low : (high low : ℕ) → low < 256 → word (high * 256 + low) ≡ high ∷ low ∷ []
high_low high low lt =
    let h : (high * 256 + low) / 256 ≡ high = omega arith in
    let l : (high * 256 + low) % 256 ≡ low = omega arith in
    cc

module _ (kind mark flags callee g1 g0 a1 a0 : ℕ) (g : g0 < 256) (a : a0 < 256) where
  kind_bytes : (k : Kind) → Told kind flags callee (g1 * 256 + g0) (a1 * 256 + a0) k
      → node_bytes (record { kind = k; mark = mark; entry = eqb (flags % 2) 1 }) ≡ kind ∷ mark ∷ flags ∷ callee ∷ g1 ∷ g0 ∷ a1 ∷ a0 ∷ []
  kind_bytes _ (is_nop k f c gs as') =
      let e = one_flag flags f in
      let x : g1 ≡ 0 = omega arith in
      let y : g0 ≡ 0 = omega arith in
      let z : a1 ≡ 0 = omega arith in
      let w : a0 ≡ 0 = omega arith in
      cc
  kind_bytes _ (is_call k f) =
      let e = two_flags flags f in
      let x : (g1 * 256 + g0) / 256 ≡ g1 = omega arith in
      let y : (g1 * 256 + g0) % 256 ≡ g0 = omega arith in
      let z : (a1 * 256 + a0) / 256 ≡ a1 = omega arith in
      let w : (a1 * 256 + a0) % 256 ≡ a0 = omega arith in
      cc
  kind_bytes _ (is_check_lem k f c as') =
      let e = one_flag flags f in
      let x : (g1 * 256 + g0) / 256 ≡ g1 = omega arith in
      let y : (g1 * 256 + g0) % 256 ≡ g0 = omega arith in
      let z : a1 ≡ 0 = omega arith in
      let w : a0 ≡ 0 = omega arith in
      cc
  kind_bytes _ (is_return_lem k f c gs as') =
      let e = one_flag flags f in
      let x : g1 ≡ 0 = omega arith in
      let y : g0 ≡ 0 = omega arith in
      let z : a1 ≡ 0 = omega arith in
      let w : a0 ≡ 0 = omega arith in
      cc

  -- a node that a record says is written as that record
  pub record_bytes : (n : Node) → record_of kind mark flags callee g1 g0 a1 a0 ≡ Some n → node_bytes n ≡ kind ∷ mark ∷ flags ∷ callee ∷ g1 ∷ g0 ∷ a1 ∷ a0 ∷ []
  record_bytes n e =
      let t = record_told kind mark flags callee g1 g0 a1 a0 n e in
      (λ i. node_bytes (record { kind = n.kind; mark = t.mark_is i; entry = t.entry_is i })) ∙ kind_bytes n.kind t.kind_is

-- the same of the record at a place
abbrev pub ToldAt : List ℕ → ℕ → Node → Type 0
ToldAt bs i n = RecordTold (byte_at bs i) (byte_at bs (i + 1)) (byte_at bs (i + 2)) (byte_at bs (i + 3)) (byte_at bs (i + 4)) (byte_at bs (i + 5)) (byte_at bs (i + 6)) (byte_at bs (i + 7)) n

pub told_at : (bs : List ℕ) (i : ℕ) (n : Node) → record_at bs i ≡ Some n → ToldAt bs i n
told_at bs i n e = record_told (byte_at bs i) (byte_at bs (i + 1)) (byte_at bs (i + 2)) (byte_at bs (i + 3)) (byte_at bs (i + 4)) (byte_at bs (i + 5)) (byte_at bs (i + 6)) (byte_at bs (i + 7)) n e
