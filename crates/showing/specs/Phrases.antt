-- What the programs print of sets of rights and of refusals, as bytes.
use Rattle.std.specs.Prelude.{ℕ, List, ◌++◌, map, if◌then◌else◌, ◌==◌, filter, codes}
use Rattle.std.specs.Fmt.{decimal}
use Rattle.std.specs.List.{join_with_byte, range_with_len}
use Rattle.model.specs.Models.{rights_in}
use Rattle.recipe.specs.declared.grounds.Refusal.{Refusal}
use Rattle.recipe.specs.Offence.{number_of, detail_of}

-- the rights of a set that have a number below n, in rising order
unfoldable pub rights_below : ℕ → ℕ → List ℕ
rights_below set n = filter (rights_in set) (range_with_len 0 n)

-- numbers in a row, with a blank between each two
abbrev pub spaced : List ℕ → List ℕ
spaced ns = join_with_byte 32 (map decimal ns)

-- a set of rights: the numbers of its rights, or "none"
abbrev pub rights_text : ℕ → List ℕ
rights_text set = if set == 0 then codes "none" else spaced (rights_below set 32)

-- the same as a phrase: "rights 0 1", or "no rights"
abbrev pub held_text : ℕ → List ℕ
held_text set = if set == 0 then codes "no rights" else codes "rights " ++ rights_text set

-- a refusal by its number and detail: "refused 1 2"
abbrev pub refused_text : Refusal → List ℕ
refused_text refusal = codes "refused " ++ (decimal (number_of refusal) ++ (codes " " ++ decimal (detail_of refusal)))
