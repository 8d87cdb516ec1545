-- A fresh inquiry: the accepted links, in any order, are all accepted again, and a long dig comes to the same verdict and the same facts.
use Rattle.std.proofs.Common.{◌≡◌, ◌+◌, false, not, ltb, List, [], ◌∷◌, ◌++◌, map, length, get_or, Ok, sym, refl, ap, ◌∙◌, subst, ap₂, ⊎_elim, arith, append_assoc, append-nil, length-append, IsPermutation, Contains}
use Rattle.std.specs.List.{IsDistinct}
use Rattle.std.proofs.lemmas.Bool.{both_ways, false_from_ne_true, and_from, not_from_false, lt-ltb, cases_lt}
use Rattle.std.proofs.lemmas.List.{get_or_at, get_or_append_left}
use Rattle.std.proofs.lemmas.Map.Keys.{apart_from_distinct}
use Rattle.std.proofs.lemmas.List.Elements.{Contains-append_left, Contains-append_right, Contains-append_cases}
use Rattle.model.specs.declared.Edge.{Edge}
use Rattle.model.specs.declared.Verdict.TheVariants.{Safe}
use Rattle.model.specs.Links.{Among, is_listed}
use Rattle.model.specs.Program.{counted}
use Rattle.model.specs.Searches.{Through}
use Rattle.model.specs.Tables.{Search, pending, any_bad}
use Rattle.model.proofs.Verdicts.{search_laws}
use Rattle.model.proofs.Lists.{has_here}
use Rattle.model.proofs.Listed.{listed_decides}
use Rattle.inquiry.specs.Calls.{answered}
use Rattle.inquiry.specs.declared.requests.Request.{Request}
use Rattle.inquiry.specs.declared.requests.Request.TheVariants.{Dig, Link}
use Rattle.inquiry.specs.declared.requests.Reply.TheVariants.{Linked}
use Rattle.inquiry.specs.Histories.{Opened, with_table, Standing, begun, may_link, answer, step, after_from, replies_from, accepted_one, accepted, after, links}
use Rattle.asking.specs.Law.{Says, facts_after, anew}
use Rattle.inquiry.proofs.Allowing.{link_passes}
use Rattle.inquiry.proofs.Going.{after_more, accepted_more}
use Rattle.asking.proofs.Judging.{said, says, through_if_safe, unsafe_if_bad, safe_if_through}
use Rattle.asking.proofs.Keeping.{same_edge, same_edge_laws, Keeps, keeps_step, keeps_begun, keeps, keeps_shuffled}
use Rattle.asking.proofs.Moving.{more_goes_bad}

-- of different edges one that stands behind others is none of them
behind_others : (done todo : List Edge) (e : Edge) → IsDistinct same_edge (done ++ e ∷ todo) → Contains done e → ⊥
behind_others done todo e apart h =
    let n = length-append done (e ∷ todo) in
    let at : same_edge (get_or (done ++ e ∷ todo) h.0 e) (get_or (done ++ e ∷ todo) (length done) e) ≡ false = apart_from_distinct same_edge (done ++ e ∷ todo) h.0 (length done) e apart h.1 (omega arith) in
    let here = get_or_append_left done (e ∷ todo) e h.0 h.1 ∙ h.2 in
    let there = get_or_at done e todo e (length done) refl in
    both_ways (same_edge e e) (sym (ap₂ same_edge here there) ∙ at) (same_edge_laws.refl e)

-- the requests for some links
abbrev asked_links : List Edge → List Request
asked_links ls = map (λ e. Link e.from e.to) ls

-- where a search is through with some links, these are all accepted
module _ (C : Opened) (ls : List Edge) (top : Standing) (k : Keeps C ls top) (through : Through top.search) where
  -- the edges that counted at the opening
  abbrev own : List Edge
  own = counted C.program C.own

  -- a standing with some of them has a search that is not full
  some_free : (done todo : List Edge) (s : Standing) → done ++ todo ≡ ls → Keeps C done s → s.search.full ≡ false
  some_free done todo s split h =
      search_laws.fits (with_table C top.edges) (counted C.program s.edges) C.places top.search s.search k.sound through h.sound
      (λ d had. k.has d (subst (λ es. Contains (own ++ es) d) split (subst (λ es. Contains es d) (append_assoc own done todo) (Contains-append_left (own ++ done) todo d (h.counts d had)))))

  -- and accepts the next one
  next_allowed : (done todo : List Edge) (e : Edge) (s : Standing) → done ++ e ∷ todo ≡ ls → Keeps C done s → may_link C s e.from e.to ≡ Ok tt
  next_allowed done todo e s split h =
      let has : Contains ls e = subst (λ es. Contains es e) split (Contains-append_right done (e ∷ todo) e (has_here e todo)) in
      let long = h.long in
      let n = length-append done (e ∷ todo) in
      let m = ap length split in
      link_passes C.program s.edges C.edge_places s.search.full e (k.right e has)
      (false_from_ne_true (is_listed (counted C.program s.edges) e) (λ listed.
      ⊎_elim (k.new e has) (behind_others done todo e (subst (IsDistinct same_edge) (sym split) k.apart)) (Contains-append_cases own done e (h.counts e ((listed_decides (counted C.program s.edges) e.from e.to).0 listed)))))
      (⊎_elim (λ none. absurd (let z = ap length none in omega arith)) (λ space. omega arith) k.room)
      (some_free done (e ∷ todo) s split h)

  -- so they are accepted one after another
  rest_accepted : (done todo : List Edge) (s : Standing) → done ++ todo ≡ ls → Keeps C done s → accepted (asked_links todo) (replies_from C s (asked_links todo)) ≡ todo
  unfolding replies_from accepted
  rest_accepted done [] s split h = refl
  rest_accepted done (e ∷ todo) s split h =
      let r : Request = Link e.from e.to in
      let one : accepted_one r (answer C s r) ≡ e ∷ [] = ap (λ o. accepted_one r (answered o (Linked (length s.edges + 1)))) (next_allowed done todo e s split h) in
      let next = subst (λ es. Keeps C (done ++ es) (step C s r)) one (keeps_step C done s r h) in
      ap (λ es. es ++ accepted (asked_links todo) (replies_from C (step C s r) (asked_links todo))) one
      ∙ ap (λ es. e ∷ es) (rest_accepted (done ++ e ∷ []) todo (step C s r) (append_assoc done (e ∷ []) todo ∙ split) next)

-- where nothing is left to work, and the table is not full, every fact is worked
through_if_rests : (s : Search) → pending s ≡ false → s.full ≡ false → Through s
through_if_rests s rest free =
    (free, ⊎_elim (λ more. absurd (both_ways (pending s) rest (and_from (not s.full) (ltb s.worked (length s.rows)) (not_from_false s.full free) (lt-ltb s.worked (length s.rows) more)))) (λ all. all) (cases_lt s.worked (length s.rows)))

module _ (C : Opened) (rs : List Request) (ls : List Edge) (safe : Says C rs Safe) (order : IsPermutation (links C rs) ls) where
  -- the standing then, and that of the fresh inquiry
  abbrev top : Standing
  top = after C rs

  abbrev fresh : Standing
  fresh = after C (anew C ls)

  -- what is kept then, with the links in the other order; and the search is through
  kept : Keeps C ls top
  kept = keeps_shuffled C (links C rs) ls top order (keeps C rs)

  through : Through top.search
  through = through_if_safe C.watch top.search (said C rs Safe safe)

  -- the accepted links are accepted again, and no others
  pub linked_again : links C (anew C ls) ≡ ls
  unfolding replies_from accepted
  linked_again =
      accepted_more C (begun C) (asked_links ls) (Dig C.places ∷ []) ∙ append-nil (links C (asked_links ls)) ∙ rest_accepted C ls top kept through [] ls (begun C) refl (keeps_begun C)

  -- so the fresh inquiry keeps it with the same links
  fresh_kept : Keeps C ls fresh
  fresh_kept = subst (λ es. Keeps C es fresh) linked_again (keeps C (anew C ls))

  -- the same edges count
  fewer : Among (counted C.program fresh.edges) (counted C.program top.edges)
  fewer d had = kept.has d (fresh_kept.counts d had)

  more : Among (counted C.program top.edges) (counted C.program fresh.edges)
  more d had = fresh_kept.has d (kept.counts d had)

  -- the fresh search is through
  fresh_through : Through fresh.search
  unfolding after_from
  fresh_through =
      let s = after C (asked_links ls) in
      through_if_rests fresh.search
      (subst (λ (t : Standing). pending t.search ≡ false) (sym (after_more C (begun C) (asked_links ls) (Dig C.places ∷ []))) (search_laws.works_all (with_table C s.edges) C.places C.places s.search (keeps C (asked_links ls)).sound (omega arith)))
      (some_free C ls top kept through ls [] fresh (append-nil ls) fresh_kept)

  -- it holds no bad fact, since no run goes bad
  fresh_good : any_bad C.watch fresh.search.rows ≡ false
  fresh_good =
      false_from_ne_true (any_bad C.watch fresh.search.rows) (λ bad.
      let run = (search_laws.judges (with_table C fresh.edges) C.places fresh.search fresh_kept.sound).unsafe (unsafe_if_bad C.watch fresh.search bad) in
      (search_laws.judges (with_table C top.edges) C.places top.search kept.sound).safe (said C rs Safe safe) (more_goes_bad (with_table C fresh.edges) (counted C.program top.edges) fewer run))

  -- so it is safe, and holds the same facts
  pub safe_again : Says C (anew C ls) Safe
  safe_again = says C (anew C ls) Safe (safe_if_through C.watch fresh.search fresh_good fresh_through)

  pub facts_again : IsPermutation (facts_after C rs) (facts_after C (anew C ls))
  facts_again = search_laws.agrees (with_table C top.edges) (counted C.program fresh.edges) C.places top.search fresh.search kept.sound through fresh_kept.sound fresh_through fewer more
