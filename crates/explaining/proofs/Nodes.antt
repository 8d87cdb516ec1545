-- The node that a record stands for: one that keeps the rules of its form, and else none.
use Rattle.std.proofs.Common.{◌≡◌, ℕ, ◌+◌, ◌*◌, ◌%◌, ◌<◌, ◌≤◌, eqb, List, Some, None, Option, unwrap_or, refl, ap, ◌∙◌, arith}
use Rattle.std.proofs.lemmas.List.{get_or_past}
use Rattle.model.specs.declared.Node.{Node}
use Rattle.model.specs.Program.{no_node, node_at, is_return}
use Rattle.recipe.specs.Bytes.{count_in, nodes_at, node_in, program_of}
use Rattle.recipe.specs.Offence.{first_offence}
use Rattle.recipe.proofs.Decoding.{told_at}
use Rattle.recipe.proofs.Scans.{nodes_length, node_at_lem}
use Rattle.explaining.specs.declared.explanation.Rule.{Rule}
use Rattle.explaining.specs.Rules.{fields_in, form_rules}
use Rattle.explaining.proofs.Forms.{keeps_form, formed, is_node, return_kind}

module _ (bs : List ℕ) (n : ℕ) where
  pub node_keeps : (m : Node) → node_in bs n ≡ Some m → first_offence (form_rules (fields_in bs n)) ≡ None
  node_keeps m e = let t = told_at bs (nodes_at bs + 8 * n) m e in keeps_form (fields_in bs n) m.kind t.kind_is t.few

  pub no_node_in : (r : Rule) → first_offence (form_rules (fields_in bs n)) ≡ Some r → node_in bs n ≡ None
  no_node_in r e = by (node_in bs n) refl
    where
      by : (o : Option Node) → node_in bs n ≡ o → o ≡ None
      by None h = refl
      by (Some m) h = let k = node_keeps m h in cc

  pub past_nodes : count_in bs 1 ≤ n → node_at (program_of bs) n ≡ no_node
  past_nodes far = let l = nodes_length bs in get_or_past (program_of bs).nodes n no_node (omega arith)

  module _ (lt : n < count_in bs 1) where
    pub broken_node : (r : Rule) → first_offence (form_rules (fields_in bs n)) ≡ Some r → node_at (program_of bs) n ≡ no_node
    broken_node r e = node_at_lem bs n lt ∙ ap (λ o. unwrap_or o no_node) (no_node_in r e)

    pub formed_entry : first_offence (form_rules (fields_in bs n)) ≡ None → (node_at (program_of bs) n).entry ≡ eqb ((fields_in bs n).flags % 2) 1
    formed_entry e =
        let h = formed (fields_in bs n) e in
        ap (λ (m : Node). m.entry) (node_at_lem bs n lt ∙ ap (λ o. unwrap_or o no_node) (is_node (fields_in bs n) h))

    pub formed_return : first_offence (form_rules (fields_in bs n)) ≡ None → is_return (node_at (program_of bs) n).kind ≡ eqb (fields_in bs n).kind 3
    formed_return e =
        let h = formed (fields_in bs n) e in
        ap (λ (m : Node). is_return m.kind) (node_at_lem bs n lt ∙ ap (λ o. unwrap_or o no_node) (is_node (fields_in bs n) h)) ∙ return_kind (fields_in bs n) h.kind h.tells
