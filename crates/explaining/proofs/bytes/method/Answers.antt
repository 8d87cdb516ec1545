use Rattle.std.proofs.Common.{sym, arith}
use Rattle.std.proofs.lemmas.List.{get_or_past}
use Rattle.model.specs.Program.{no_method}
use Rattle.recipe.specs.Bytes.{program_of}
use Rattle.recipe.proofs.Scans.{methods_length, method_at_lem}
use Rattle.explaining.proofs.bytes.method.Goals as goal

pub returns-then-k-count-clause-value : goal.returns-then-k-count-clause-value
returns-then-k-count-clause-value c = let e = method_at_lem c.args.file.now c.args.k (omega arith) in cc

pub returns-else-k-count-clause-value : goal.returns-else-k-count-clause-value
returns-else-k-count-clause-value c = let n = methods_length c.args.file.now in sym (get_or_past (program_of c.args.file.now).methods c.args.k no_method (omega arith))
