use Rattle.std.proofs.Common.{◌≡◌, ℕ, true, List, [], ◌∷◌, ◌++◌, length, ap, ◌∙◌, arith, rules}
use Rattle.std.proofs.lemmas.List.{length_push}
use Rattle.model.specs.Program.{is_entry_of}
use Rattle.recipe.specs.Recipes.{program}
use Rattle.inspect.proofs.Entries.{entries_more}
use Rattle.inspect.proofs.ruled.first_entries.Goals.{then-is_entry_of+in_ok-push, else-is_entry_of}
use Rattle.inspect.proofs.ruled.first_entries.Goals as goal

pub loop-n-init : goal.loop-n-init
loop-n-init c = let none = ap (λ (xs : List ℕ). length xs) c.new-entries.ensures.items in record { few = omega (arith, none); each = λ k lt. absurd (omega (arith, none)) }

pub loop-n-preserved : goal.loop-n-preserved
loop-n-preserved c =
    let p = program c.args.recipe.now in
    let xs = c.loop-n.entries.items in
    let few = c.loop-n.invariant.few in
    elim c.if-is_entry_of.branch [
      | then-is_entry_of+in_ok-push w ↦
          let more : c.if-is_entry_of.entries.items ≡ xs ++ c.loop-n.n ∷ [] = search rules in
          let is : is_entry_of p (length xs) c.loop-n.n ≡ true = search rules in
          let long = ap (λ (zs : List ℕ). length zs) more ∙ length_push xs c.loop-n.n in
          record { few = omega (arith, long); each = entries_more p xs c.if-is_entry_of.entries.items c.loop-n.n more is c.loop-n.invariant.each }
      | else-is_entry_of w ↦ rw w.entries-is (record { few = omega arith; each = c.loop-n.invariant.each })
    ]

pub returns : goal.returns
returns c = λ k lt. c.loop-n.invariant.each k lt
