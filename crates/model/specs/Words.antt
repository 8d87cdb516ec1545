-- What a verdict is called: the bytes that are printed of it.
use Rattle.std.specs.Prelude.{ℕ, List, codes}
use Rattle.model.specs.declared.Verdict.{Verdict}
use Rattle.model.specs.declared.Verdict.TheVariants.{Safe, Unsafe, Full, Unfinished}

abbrev pub verdict_name : Verdict → List ℕ
verdict_name Safe = codes "safe"
verdict_name Unsafe = codes "unsafe"
verdict_name Full = codes "full"
verdict_name Unfinished = codes "unfinished"
