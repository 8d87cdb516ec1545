use Rattle.std.proofs.Common.{◌≡◌, ℕ, ◌+◌, List, length, drop, map, Some, None, Err, sym, ap, ◌∙◌}
use Rattle.std.proofs.lemmas.List.{length_push}
use Rattle.std.specs.String.{string_bytes}
use Rattle.following.specs.Words.{number_in, numbers_from}
use Rattle.following.proofs.Parsing.{numbers_more, numbers_end}
use Rattle.following.proofs.numbers.numbers.Goals as goal

pub loop-i-init : goal.loop-i-init
loop-i-init c = record {
  so_far = ap (λ (ns : List ℕ). numbers_from ns (map string_bytes c.args.words.now)) c.new-numbers.ensures.items;
  each = ap length c.new-numbers.ensures.items;
}

-- a word that says no number
pub returns-in_default : goal.returns-in_default
returns-in_default c =
    let so_far = c.loop-i.invariant in
    let says : number_in (string_bytes c.index-words-i.result) ≡ None = ap number_in (sym c.as_str.ensures.value) ∙ sym c.number.ensures ∙ c.in_default.is in
    ap Err (sym so_far.each) ∙ sym (numbers_more string_bytes c.loop-i.numbers.items c.args.words.now c.loop-i.i c.index-words-i.result None c.loop-i-test.true (sym c.index-words-i.is) says) ∙ so_far.so_far

-- one that does
pub loop-i-preserved : goal.loop-i-preserved
loop-i-preserved c =
    let so_far = c.loop-i.invariant in
    let n = c.in-Some.n in
    let says : number_in (string_bytes c.index-words-i.result) ≡ Some n = ap number_in (sym c.as_str.ensures.value) ∙ sym c.number.ensures ∙ c.in-Some.is in
    let next = numbers_more string_bytes c.loop-i.numbers.items c.args.words.now c.loop-i.i c.index-words-i.result (Some n) c.loop-i-test.true (sym c.index-words-i.is) says in
    record {
      so_far = ap (λ (ns : List ℕ). numbers_from ns (map string_bytes (drop (c.loop-i.i + 1) c.args.words.now))) c.in_ok-push.ensures.items ∙ sym next ∙ so_far.so_far;
      each = ap length c.in_ok-push.ensures.items ∙ length_push c.loop-i.numbers.items n ∙ ap (λ k. k + 1) so_far.each;
    }

pub returns : goal.returns
returns c = sym (numbers_end string_bytes c.loop-i.numbers.items c.args.words.now c.loop-i.i c.loop-i-test.false) ∙ c.loop-i.invariant.so_far
