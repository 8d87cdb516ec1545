-- The numbers that words say: in decimal digits, which a plus may precede, and of at most 32 bits.
use Rattle.std.specs.Prelude.{ℕ, if◌then◌else◌, ◌&&◌, List, [], ◌∷◌, ◌++◌, length, Some, None, Ok, Err, Option, Result, nat_lt}
use Rattle.std.specs.Str.{all_ascii_digits}
use Rattle.std.specs.Str.Parse.{digits_value, without_leading_plus}
use Rattle.std.specs.declared.vec.Vec.{Vec}
use Rattle.std.specs.declared.alloc.Global.{Global}

-- the number that digits say, if they are some, and nothing else, and it fits
abbrev pub digits_number : List ℕ → Option ℕ
digits_number ds = if nat_lt 0 (length ds) && (all_ascii_digits ds && nat_lt (digits_value 10 ds) 4294967296) then Some (digits_value 10 ds) else None

abbrev pub number_in : List ℕ → Option ℕ
number_in word = digits_number (without_leading_plus word)

-- the numbers that words say, behind those of the words before; or the place of the first word that says none
unfoldable pub numbers_from : List ℕ → List (List ℕ) → Result (List ℕ) ℕ
numbers_from ns [] = Ok ns
numbers_from ns (w ∷ ws) = elim (number_in w) as (λ _. Result (List ℕ) ℕ) [ Some n ↦ numbers_from (ns ++ n ∷ []) ws | None ↦ Err (length ns) ]

abbrev pub numbers_in : List (List ℕ) → Result (List ℕ) ℕ
numbers_in ws = numbers_from [] ws

-- the same as code holds it
abbrev pub numbers_of : Result (Vec ℕ Global) ℕ → Result (List ℕ) ℕ
numbers_of (Ok numbers) = Ok numbers.items
numbers_of (Err place) = Err place
