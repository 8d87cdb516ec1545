-- What both rules make of the calls and the checks of a recipe, node by node: a line for each.
use Rattle.std.specs.Prelude.{ℕ, zero, suc, List, [], ◌++◌, length, codes, slice_index}
use Rattle.model.specs.Access.{history, stack_inspection}
use Rattle.model.specs.declared.Kind.{Kind}
use Rattle.model.specs.declared.Kind.TheVariants.{Nop, Call, Check, Return}
use Rattle.model.specs.Program.{Program, node_at, rights_of}
use Rattle.inspect.specs.Phrases.{at_call_text, at_check_text}

-- a call is asked of with every right, at the entry of its callee in this list; a check with the rights of its own method
abbrev pub answer_of : Program → List ℕ → ℕ → Kind → List ℕ
answer_of p entries n Nop = []
answer_of p entries n (Call callee grant accept privileged) =
    let m = slice_index entries callee in
    at_call_text n ((history p).enter 65535 n m) ((stack_inspection p).enter 65535 n m) ++ codes "\n"
answer_of p entries n (Check required) = at_check_text n ((history p).pass (rights_of p n) n) ((stack_inspection p).pass (rights_of p n) n) ++ codes "\n"
answer_of p entries n Return = []

unfoldable pub answer_text : Program → List ℕ → ℕ → List ℕ
answer_text p entries n = answer_of p entries n (node_at p n).kind

-- of the first n nodes
unfoldable pub answers_of : Program → List ℕ → ℕ → List ℕ
answers_of p entries zero = []
answers_of p entries (suc n) = answers_of p entries n ++ answer_text p entries n

abbrev pub answers_text : Program → List ℕ → List ℕ
answers_text p entries = answers_of p entries (length p.nodes)
