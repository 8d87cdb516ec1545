use Rattle.std.proofs.Common.{◌≡◌, ℕ, ◌-◌, Bool, true, false, cond, leb, List, ◌++◌, length, take, drop, Ok, Err, Result, arith}
use lib.Seq.{take-append_seam}
use Rattle.recipe.specs.declared.grounds.Refusal.{Refusal}
use Rattle.recipe.specs.declared.grounds.Refusal.TheVariants.{ShortOutput}
use Rattle.recipe.specs.Writing.{write_answer, write_output}
use Rattle.inspect.proofs.written.write_and_read.Goals as goal

-- where write answered a length, the file stands at the front of the output, and is so long
front : (file out after : List ℕ) (n : ℕ) → Ok n ≡ write_answer file out → after ≡ write_output file out → take (n - 0) after ≡ file
front file out after n = split (leb (length file) (length out))
  where
    split :
        (b : Bool)
        → ◌≡◌ {A = Result ℕ Refusal} (Ok n) (cond b (Ok (length file)) (Err (ShortOutput (length file))))
        → after ≡ cond b (file ++ drop (length file) out) out
        → take (n - 0) after ≡ file
    split true answer output =
        let e : n ≡ length file = cc in
        let k : n - 0 ≡ length file = omega arith in
        rw (k, output) (take-append_seam file _)
    split false answer output = let z : ◌≡◌ {A = ℕ} 0 1 = cc in absurd (omega arith)

-- What was written is legal, so to read it is never refused.
pub returns-in_err-read : goal.returns-in_err-read
returns-in_err-read c =
    let same = front _ _ _ _ c.in_ok-bytes.ensures.answer c.write.ensures.output in
    let wrong : false ≡ true = c.in_err-read.ensures.legal.1 (rw same c.write.ensures.legal) in
    let z : ◌≡◌ {A = ℕ} 0 1 = cc in
    absurd (omega arith)

pub returns-clause-read : goal.returns-clause-read
returns-clause-read c = front _ _ _ _ c.in_ok-bytes.ensures.answer c.write.ensures.output
