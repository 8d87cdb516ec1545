-- Histories: an inquiry that is asked one request after another. Where it stands then, what each request is answered, which links were accepted, and what an output holds.
use Rattle.std.specs.Prelude.{ℕ, ◌+◌, List, [], ◌∷◌, ◌++◌, length, Ok, Result}
use Rattle.model.specs.declared.Edge.{Edge}
use Rattle.model.specs.Access.{Rule}
use Rattle.model.specs.Facts.{Setting}
use Rattle.model.specs.Links.{linked}
use Rattle.model.specs.Program.{Program, counted}
use Rattle.model.specs.Searches.{unworked}
use Rattle.model.specs.Tables.{Search, opened, dug, verdict_of}
use Rattle.model.specs.Watches.{Watch}
use Rattle.recipe.specs.declared.grounds.Refusal.{Refusal}
use Rattle.recipe.specs.Recipes.{program, own_edges}
use Rattle.rules.specs.declared.subject.Subject.{Subject}
use Rattle.inquiry.specs.declared.requests.Request.{Request}
use Rattle.inquiry.specs.declared.requests.Request.TheVariants.{Dig, Link, Verdict, Trace}
use Rattle.inquiry.specs.declared.requests.Reply.{Reply}
use Rattle.inquiry.specs.declared.requests.Reply.TheVariants.{Dug, Linked, Judged, Traced}
use Rattle.inquiry.specs.Calls.{Allowed, answered, unless, fit_answer, dug_from, link_allowed, trace_length, trace_allowed, trace_output}

-- how many nodes a reply says were written to the output
abbrev pub written_by : Reply → ℕ
written_by (Traced n) = n
written_by _ = 0

-- what an inquiry was opened with: a program with its own edges, a rule and a watch; and how many places the tables of facts and of edges have
pub record Opened : Type 0 where
  pub program : Program
  pub own : List Edge
  pub rule : Rule
  pub watch : Watch
  pub places : ℕ
  pub edge_places : ℕ

-- an inquiry into a subject, with tables of so many places
abbrev pub opened_on : {R W : Type 0} → (R → Program → Rule) → (W → Watch) → Subject R W → ℕ → ℕ → Opened
opened_on meaning watching on places edge_places = record {
  program = program on.recipe.now;
  own = own_edges on.recipe.now;
  rule = meaning on.rule.now (program on.recipe.now);
  watch = watching on.watch.now;
  places = places;
  edge_places = edge_places;
}

-- the program with those edges of a list that count, under the rule and the watch
abbrev pub with_table : Opened → List Edge → Setting
with_table C es = record { program = C.program; edges = counted C.program es; rule = C.rule; watch = C.watch }

-- whether its tables fit
abbrev pub fit_of : Opened → Allowed
fit_of C = fit_answer (with_table C C.own) (length C.own) C.places C.edge_places

-- where an inquiry stands: the edges in use in the edge table, and the search in the table of facts
pub record Standing : Type 0 where
  pub edges : List Edge
  pub search : Search

-- at its opening
abbrev pub begun : Opened → Standing
begun C = record { edges = C.own; search = opened (with_table C C.own) C.places }

-- whether a link of these nodes is accepted, and whether a trace is written to so many places
abbrev pub may_link : Opened → Standing → ℕ → ℕ → Allowed
may_link C s from to = link_allowed C.program s.edges C.edge_places s.search.full (record { from = from; to = to })

abbrev pub may_trace : Opened → Standing → ℕ → Allowed
may_trace C s room = trace_allowed C.watch s.search room

-- the search after a dig
abbrev pub dug_at : Opened → Standing → ℕ → Search
dug_at C s allowed = dug (with_table C s.edges) C.places allowed s.search

-- what a request is answered
abbrev pub answer : Opened → Standing → Request → Result Reply Refusal
answer C s (Dig allowed) = Ok (Dug (dug_from s.search (dug_at C s allowed)))
answer C s (Link from to) = answered (may_link C s from to) (Linked (length s.edges + 1))
answer C s Verdict = Ok (Judged (verdict_of C.watch s.search))
answer C s (Trace room) = answered (may_trace C s room) (Traced (trace_length C.watch s.search))

-- where the inquiry stands after it
abbrev pub step : Opened → Standing → Request → Standing
step C s (Dig allowed) = record { edges = s.edges; search = dug_at C s allowed }
step C s (Link from to) = unless (may_link C s from to) (record { edges = linked C.program s.edges (record { from = from; to = to }); search = unworked s.search }) s
step C s Verdict = s
step C s (Trace room) = s

-- what an output holds after it that held this before: only a trace is written
abbrev pub output_by : Opened → Standing → Request → List ℕ → List ℕ
output_by C s (Trace room) out = unless (may_trace C s room) (trace_output C.watch s.search out) out
output_by C s _ out = out

-- after some requests, one after another
unfoldable pub after_from : Opened → Standing → List Request → Standing
after_from C s [] = s
after_from C s (r ∷ rs) = after_from C (step C s r) rs

abbrev pub after : Opened → List Request → Standing
after C rs = after_from C (begun C) rs

-- the answer that a request has after others
abbrev pub asked : Opened → List Request → Request → Result Reply Refusal
asked C rs r = answer C (after C rs) r

-- the record of the answers of some requests
unfoldable pub replies_from : Opened → Standing → List Request → List (Result Reply Refusal)
replies_from C s [] = []
replies_from C s (r ∷ rs) = answer C s r ∷ replies_from C (step C s r) rs

abbrev pub replies : Opened → List Request → List (Result Reply Refusal)
replies C rs = replies_from C (begun C) rs

-- what an output holds after some requests whose traces went to it
unfoldable pub output_from : Opened → Standing → List Request → List ℕ → List ℕ
output_from C s [] out = out
output_from C s (r ∷ rs) out = output_from C (step C s r) rs (output_by C s r out)

abbrev pub output_after : Opened → List Request → List ℕ → List ℕ
output_after C rs out = output_from C (begun C) rs out

-- the edge that was accepted, if the request was a link and was not refused
abbrev pub accepted_one : Request → Result Reply Refusal → List Edge
accepted_one (Link from to) (Ok reply) = record { from = from; to = to } ∷ []
accepted_one _ _ = []

-- the accepted links, read off the requests and the record
unfoldable pub accepted : List Request → List (Result Reply Refusal) → List Edge
accepted [] answers = []
accepted (r ∷ rs) [] = []
accepted (r ∷ rs) (a ∷ answers) = accepted_one r a ++ accepted rs answers

abbrev pub links : Opened → List Request → List Edge
links C rs = accepted rs (replies C rs)

-- the linked recipe: the recipe with the accepted links added to its edges
abbrev pub linked_recipe : Opened → List Request → Setting
linked_recipe C rs = record { program = C.program; edges = counted C.program C.own ++ links C rs; rule = C.rule; watch = C.watch }
