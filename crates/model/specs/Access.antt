-- Access rules as mathematics: what a rule is, and the two rules, history and stack inspection.
use Rattle.std.specs.Prelude.{ℕ, Bool, true, false, cond, ◌&&◌, ◌==◌, bit_and, bit_or, nat_lt}
use Rattle.model.specs.declared.Kind.{Kind}
use Rattle.model.specs.declared.Kind.TheVariants.{Call, Check}
use Rattle.model.specs.Program.{Program, method_at, node_at, rights_of, is_entry_of, is_return_of}

-- how many values there are, and the four questions: the value at an entry of main; at an entry that a call reached with a value goes to; whether a check reached with a value is passed; and after a call reached with a value, whose callee returned at a node with a value
pub record Rule : Type 0 where
  pub values : ℕ
  pub first : ℕ → ℕ
  pub enter : ℕ → ℕ → ℕ → ℕ
  pub pass : ℕ → ℕ → Bool
  pub back : ℕ → ℕ → ℕ → ℕ → ℕ

-- the node is a call, and m an entry of its callee; x a return of its callee
abbrev pub call_enters : Program → Kind → ℕ → Bool
call_enters p (Call callee grant accept privileged) m = is_entry_of p callee m
call_enters p _ m = false

abbrev pub call_returns : Program → Kind → ℕ → Bool
call_returns p (Call callee grant accept privileged) x = is_return_of p callee x
call_returns p _ x = false

abbrev pub is_check : Kind → Bool
is_check (Check required) = true
is_check _ = false

-- the question is put as it should be: about an entry of main; a value below the count, a call and an entry of its callee; a value and a check; two values, a call and a return of its callee
abbrev pub asks_first : Program → ℕ → Bool
asks_first p n = is_entry_of p 0 n

abbrev pub asks_enter : Program → ℕ → ℕ → ℕ → ℕ → Bool
asks_enter p values v n m = nat_lt v values && call_enters p (node_at p n).kind m

abbrev pub asks_pass : Program → ℕ → ℕ → ℕ → Bool
asks_pass p values v n = nat_lt v values && is_check (node_at p n).kind

abbrev pub asks_back : Program → ℕ → ℕ → ℕ → ℕ → ℕ → Bool
asks_back p values v n u x = nat_lt v values && (nat_lt u values && call_returns p (node_at p n).kind x)

-- what a node of some kind gives to a rule; 0, and no, if its kind does not have it
abbrev pub callee_of : Kind → ℕ
callee_of (Call callee grant accept privileged) = callee
callee_of _ = 0

abbrev pub grant_of : Kind → ℕ
grant_of (Call callee grant accept privileged) = grant
grant_of _ = 0

abbrev pub accept_of : Kind → ℕ
accept_of (Call callee grant accept privileged) = accept
accept_of _ = 0

abbrev pub privileged_of : Kind → Bool
privileged_of (Call callee grant accept privileged) = privileged
privileged_of _ = false

abbrev pub required_of : Kind → ℕ
required_of (Check required) = required
required_of _ = 0

-- sets of rights are numbers: bit_or is union, bit_and intersection. Going in, history adds what is granted and cuts that to what the callee may; coming out it keeps, of what it had before, what the callee was left with or the call accepts
abbrev pub history_enter : ℕ → ℕ → ℕ → ℕ
history_enter c grant callee = bit_and (bit_or c grant) callee

abbrev pub history_back : ℕ → ℕ → ℕ → ℕ
history_back c u accept = bit_and c (bit_or u accept)

-- going in, stack inspection cuts what it has, or where the call is privileged all that the caller may, to what the callee may; coming out it has again what it had before
abbrev pub stack_enter : Bool → ℕ → ℕ → ℕ → ℕ
stack_enter privileged c caller callee = bit_and (cond privileged caller c) callee

-- a check lets through who has all that it requires
abbrev pub holds : ℕ → ℕ → Bool
holds required c = bit_and required c == required

-- what the two rules share: a value is one of the 65,536 sets of rights, the first one is all that main may, and checks let through the same. A question that is not put as it should be is answered with 0, or with no
abbrev pub rights_count : ℕ
rights_count = 65536

abbrev pub set_first : Program → ℕ → ℕ
set_first p n = cond (asks_first p n) (method_at p 0).rights 0

abbrev pub set_pass : Program → ℕ → ℕ → Bool
set_pass p c n = asks_pass p rights_count c n && holds (required_of (node_at p n).kind) c

abbrev pub callee_rights : Program → ℕ → ℕ
callee_rights p n = (method_at p (callee_of (node_at p n).kind)).rights

abbrev pub history : Program → Rule
history p = record {
  values = rights_count;
  first = set_first p;
  enter = λ c n m. cond (asks_enter p rights_count c n m) (history_enter c (grant_of (node_at p n).kind) (callee_rights p n)) 0;
  pass = set_pass p;
  back = λ c n u x. cond (asks_back p rights_count c n u x) (history_back c u (accept_of (node_at p n).kind)) 0;
}

abbrev pub stack_inspection : Program → Rule
stack_inspection p = record {
  values = rights_count;
  first = set_first p;
  enter = λ c n m. cond (asks_enter p rights_count c n m) (stack_enter (privileged_of (node_at p n).kind) c (rights_of p n) (callee_rights p n)) 0;
  pass = set_pass p;
  back = λ c n u x. cond (asks_back p rights_count c n u x) c 0;
}
