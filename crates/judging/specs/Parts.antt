-- What the parts of a judging answer: contracts of private functions. Nothing that a caller is promised rests on it.
use Rattle.std.specs.Prelude.{ℕ, List, take, Ok, Err, Result}
use Rattle.recipe.specs.declared.grounds.Refusal.{Refusal}
use Rattle.inquiry.specs.Histories.{written_by}
use Rattle.inquiry.specs.declared.requests.Reply.{Reply}

-- how many nodes a reply says were written, or why none were
abbrev pub written_of : Result Reply Refusal → Result ℕ Refusal
written_of (Ok reply) = Ok (written_by reply)
written_of (Err e) = Err e

-- the nodes that are said to be written to an output
abbrev pub nodes_written : List ℕ → Result ℕ Refusal → Result (List ℕ) Refusal
nodes_written output (Ok n) = Ok (take n output)
nodes_written output (Err e) = Err e
