-- Each rule that is said to be broken is shown to be, by the values that are said.
use Rattle.std.proofs.Common.{◌≡◌, ℕ, zero, suc, ◌-◌, ◌<◌, ◌≤◌, Bool, true, false, cond, eqb, ◌⊎◌, List, [], ◌∷◌, ◌++◌, length, Some, None, Option, IfSome, refl, subst, inl, inr, arith}
use Rattle.std.proofs.lemmas.Bool.{cases_eq, cases_lt}
use Rattle.std.proofs.lemmas.Bool.Decides.{nat_tests}
use Rattle.model.specs.declared.Edge.{Edge}
use Rattle.model.specs.Program.{rights_of, rises, rises_after}
use Rattle.recipe.specs.declared.grounds.Refusal.{Refusal}
use Rattle.recipe.specs.declared.grounds.Refusal.TheVariants.{Misplaced, Miscounted, BadMethod, BadNode, BadEdge, BadRow, TooMany, OtherCounts, UnfitTable, NotAnEdge, EdgeHeld, EdgesFull, InquiryFull, NotUnsafe, LongTrace, NotAStep, StackFull, ShortOutput}
use Rattle.recipe.specs.Bytes.{count_in, edge_in, cell_in, program_of}
use Rattle.recipe.specs.Offence.{first_offence, between, edge_before, cell_test}
use Rattle.explaining.specs.declared.explanation.Explanation.{Explanation}
use Rattle.explaining.specs.declared.explanation.Fields.{Fields}
use Rattle.explaining.specs.declared.explanation.Record.{Record}
use Rattle.explaining.specs.declared.explanation.Record.TheVariants.{File, Node, Row}
use Rattle.explaining.specs.declared.explanation.Rule.{Rule}
use Rattle.explaining.specs.declared.explanation.Rule.TheVariants.{WrongCell}
use Rattle.explaining.specs.Rules.{fields_in, form_rules, call_rules, length_rules, place_rules, fewest, most, count_rules, method_rules, node_rules, edge_rules, row_rules, said, method_record, edge_record, entry_record, explained}
use Rattle.explaining.specs.Shown.{Shows}
use Rattle.explaining.proofs.Law.{first_fails, each_in}

-- what holds of each of these rules if its test fails
Each : (Rule → Type 0) → List (Bool × Rule) → Type 0
Each P [] = Unit {0}
Each P (t ∷ ts) = (t.0 ≡ false → P t.1) × Each P ts

-- holds of the first one whose test does
first_shown : (P : Rule → Type 0) (ts : List (Bool × Rule)) (r : Rule) → Each P ts → first_offence ts ≡ Some r → P r
unfolding Each first_offence
first_shown P [] r h e = cc
first_shown P ((true, s) ∷ ts) r h e = first_shown P ts r h.1 e
first_shown P ((false, s) ∷ ts) r h e = let same : s ≡ r = cc in subst P same (h.0 refl)

each_both : (P : Rule → Type 0) (xs ys : List (Bool × Rule)) → Each P xs → Each P ys → Each P (xs ++ ys)
unfolding Each
each_both P [] ys a b = b
each_both P (x ∷ xs) ys a b = (a.0, each_both P xs ys a.1 b)

-- what is said shows it
said_shows : (what : Record) (at : ℕ) (o : Option Rule) → ((r : Rule) → o ≡ Some r → Shows what r) → IfSome (said what at o) (λ e. Shows e.what e.broken)
said_shows what at None h = tt
said_shows what at (Some r) h = h r refl

below_shows : (b : Bool) (o : Option Explanation) → IfSome o (λ e. Shows e.what e.broken) → IfSome (cond b o None) (λ e. Shows e.what e.broken)
below_shows true o h = h
below_shows false o h = tt

either : (b : Bool) (x y : Option Explanation) → IfSome x (λ e. Shows e.what e.broken) → IfSome y (λ e. Shows e.what e.broken) → IfSome (cond b x y) (λ e. Shows e.what e.broken)
either true x y h k = h
either false x y h k = k

module _ (n : ℕ) (f : Fields) where
  form_shows : Each (Shows (Node n f)) (form_rules f)
  unfolding Each form_rules
  form_shows = (
    λ e. grind (arith, nat_tests),
    (λ e. grind (arith, nat_tests), (λ e. grind (arith, nat_tests), (λ e. (grind (arith, nat_tests), grind (arith, nat_tests)), (λ e. (grind (arith, nat_tests), grind (arith, nat_tests)), (λ e. (grind (arith, nat_tests), grind (arith, nat_tests), grind (arith, nat_tests)), (λ e. (grind (arith, nat_tests), grind (arith, nat_tests)), tt)))))),
  )

  calls_show : (methods rights : ℕ) → Each (Shows (Node n f)) (call_rules methods rights f)
  unfolding Each call_rules
  calls_show methods rights = (λ e. (grind (arith, nat_tests), grind (arith, nat_tests)), (λ e. (grind (arith, nat_tests), grind (arith, nat_tests)), (λ e. (grind (arith, nat_tests), grind (arith, nat_tests)), tt)))

-- an edge that does not rise above the one before it
not_rising : (d e : Edge) → rises d e ≡ false → (e.from < d.from) ⊎ ((e.from ≡ d.from) × (e.to ≤ d.to))
not_rising d e h = elim (cases_eq e.from d.from) [
  | inl same ↦ inr (same, grind (arith, nat_tests))
  | inr other ↦ inl (grind (arith, nat_tests))
]

module _ (bs : List ℕ) where
  length_shows : Each (Shows (File (length bs))) (length_rules bs)
  unfolding Each length_rules
  length_shows = (λ e. grind (arith, nat_tests), (λ e. grind (arith, nat_tests), tt))

  place_shows : (entry : ℕ) → Each (Shows (entry_record bs entry)) (place_rules bs entry)
  unfolding Each place_rules
  place_shows entry = (λ e. grind (arith, nat_tests), tt)

  count_shows : (entry : ℕ) → Each (Shows (entry_record bs entry)) (count_rules bs entry)
  unfolding Each count_rules
  count_shows entry = (λ e. outside (fewest entry) (most entry) (count_in bs entry) e, tt)
    where
      outside : (low high n : ℕ) → between low high n ≡ false → (n < low) ⊎ (high < n)
      outside low high n e = elim (cases_lt n low) [ inl h ↦ inl h | inr h ↦ inr (grind (arith, nat_tests)) ]

  method_shows : (k : ℕ) → Each (Shows (method_record bs k)) (method_rules bs k)
  unfolding Each method_rules
  method_shows k = (λ e. grind (arith, nat_tests), (λ e. grind (arith, nat_tests), (λ e. grind (arith, nat_tests), (λ e. tt, tt))))

  edge_shows : (i : ℕ) → Each (Shows (edge_record bs i)) (edge_rules bs i)
  unfolding Each edge_rules
  edge_shows i = (λ e. grind (arith, nat_tests), (λ e. grind (arith, nat_tests), (λ e. tt, (λ e. grind (arith, nat_tests), (λ e. falling i e, tt)))))
    where
      falling : (j : ℕ) → rises_after (edge_before bs j) (edge_in bs j) ≡ false → ((edge_in bs j).from < (edge_in bs (j - 1)).from) ⊎ (((edge_in bs j).from ≡ (edge_in bs (j - 1)).from) × ((edge_in bs j).to ≤ (edge_in bs (j - 1)).to))
      falling zero e = cc
      falling (suc j) e = let same : suc j - 1 ≡ j = omega arith in rw same (not_rising (edge_in bs j) (edge_in bs (suc j)) e)

  row_shows : (r : ℕ) (rule : Rule) → first_offence (row_rules bs r) ≡ Some rule → Shows (Row r) rule
  unfolding row_rules
  row_shows r rule e =
      let w = each_in 32 (cell_test bs r) (λ c. WrongCell c (cell_in bs r c)) rule (first_fails _ rule e) in
      subst (Shows (Row r)) w.3 (w.1, let t = w.2 in grind (arith, nat_tests))

  node_shows : (n : ℕ) → Each (Shows (Node n (fields_in bs n))) (node_rules bs n)
  unfolding node_rules
  node_shows n = each_both _ (form_rules (fields_in bs n)) _ (form_shows n (fields_in bs n)) (calls_show n (fields_in bs n) (count_in bs 0) (rights_of (program_of bs) n))

  pub shown : (r : Refusal) → IfSome (explained bs r) (λ e. Shows e.what e.broken)
  unfolding explained
  shown (Misplaced entry) = either (eqb entry 4) _ _ (said_shows _ _ _ (λ r e. first_shown _ _ r length_shows e)) (below_shows _ _ (said_shows _ _ _ (λ r e. first_shown _ _ r (place_shows entry) e)))
  shown (Miscounted entry) = below_shows _ _ (said_shows _ _ _ (λ r e. first_shown _ _ r (count_shows entry) e))
  shown (BadMethod k) = below_shows _ _ (said_shows _ _ _ (λ r e. first_shown _ _ r (method_shows k) e))
  shown (BadNode n) = below_shows _ _ (said_shows _ _ _ (λ r e. first_shown _ _ r (node_shows n) e))
  shown (BadEdge i) = below_shows _ _ (said_shows _ _ _ (λ r e. first_shown _ _ r (edge_shows i) e))
  shown (BadRow r) = below_shows _ _ (said_shows _ _ _ (row_shows r))
  shown TooMany = tt
  shown OtherCounts = tt
  shown UnfitTable = tt
  shown NotAnEdge = tt
  shown EdgeHeld = tt
  shown EdgesFull = tt
  shown InquiryFull = tt
  shown NotUnsafe = tt
  shown (LongTrace n) = tt
  shown (NotAStep place) = tt
  shown (StackFull place) = tt
  shown (ShortOutput needed) = tt
