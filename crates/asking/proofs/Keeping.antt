-- What each request keeps: the search is sound, and the edge table is that of the opening with the accepted links.
use Rattle.std.proofs.Common.{◌≡◌, ℕ, ◌+◌, ◌<◌, ◌≤◌, Bool, true, false, ◌&&◌, eqb, ◌⊎◌, List, [], ◌∷◌, ◌++◌, length, sym, refl, ◌∙◌, subst, inl, inr, ⊎_elim, arith, append_assoc, append-nil, ap, IsPermutation, Contains}
use Rattle.std.specs.Cmp.{IsEquivalence}
use Rattle.std.specs.List.{IsDistinct}
use Rattle.std.proofs.lemmas.Bool.{false_from_ne_true}
use Rattle.std.proofs.lemmas.Bool.Decides.{nat_tests, not_from_Decides}
use Rattle.std.proofs.lemmas.List.{length_push, nil_from_length}
use Rattle.std.proofs.lemmas.List.Sorted.{IsPermutation-sym, IsPermutation-append_right, length_permutation, Contains-permutation}
use Rattle.std.proofs.lemmas.Map.Keys.{IsDistinct-push, IsDistinct-IsPermutation}
use Rattle.std.proofs.lemmas.List.Elements.{Contains-append_left, Contains-append_right, Contains-push, Contains-push_cases}
use Rattle.model.specs.declared.Edge.{Edge}
use Rattle.model.specs.Links.{Among, is_listed, linked}
use Rattle.model.specs.Program.{EdgeRules, is_edge, counted, Leads}
use Rattle.model.specs.Searches.{Sound}
use Rattle.model.proofs.Edges.{edge_rules}
use Rattle.model.proofs.Links.{link_laws}
use Rattle.model.proofs.Verdicts.{search_laws}
use Rattle.model.proofs.Listed.{listed_decides}
use Rattle.inquiry.specs.Calls.{answered, unless}
use Rattle.inquiry.specs.declared.requests.Request.{Request}
use Rattle.inquiry.specs.declared.requests.Request.TheVariants.{Dig, Link, Verdict, Trace}
use Rattle.inquiry.specs.declared.requests.Reply.{Reply}
use Rattle.inquiry.specs.declared.requests.Reply.TheVariants.{Linked}
use Rattle.inquiry.specs.Histories.{Opened, with_table, Standing, begun, may_link, dug_at, answer, step, after_from, replies_from, accepted_one, accepted, after, links}
use Rattle.inquiry.specs.Grounds.{LinkAnswer}
use Rattle.inquiry.proofs.Grounds.{answer_laws}
use Rattle.inquiry.proofs.Allowing.{linked_at, link_cases}

-- one edge is another, as a test
abbrev pub same_edge : Edge → Edge → Bool
same_edge e d = eqb d.from e.from && eqb d.to e.to

-- each is the same as itself, two may change places, and of two that are the same either may stand for the other
pub same_edge_laws : IsEquivalence same_edge
same_edge_laws = record { refl = λ e. grind (arith, nat_tests); symm = λ d e. grind (arith, nat_tests); congr = λ d e f h. grind (arith, nat_tests) }

-- what an inquiry keeps, with the links accepted so far
pub record Keeps (C : Opened) (ls : List Edge) (s : Standing) : Type 0 where
  -- the search is sound, over the edges that count of the table
  pub sound : Sound (with_table C s.edges) C.places s.search
  -- those are the ones that counted at the opening, and the accepted links
  pub counts : Among (counted C.program s.edges) (counted C.program C.own ++ ls)
  pub has : Among (counted C.program C.own ++ ls) (counted C.program s.edges)
  -- all of the table count, if all did at the opening
  pub all : counted C.program C.own ≡ C.own → counted C.program s.edges ≡ s.edges
  -- the table has one edge more for each link, and they have places
  pub long : length s.edges ≡ length C.own + length ls
  pub room : (ls ≡ []) ⊎ (length C.own + length ls ≤ C.edge_places)
  -- each link is an edge by the rules, and none that counted at the opening; and no two are the same
  pub right : (e : Edge) → Contains ls e → is_edge C.program e ≡ true
  pub new : (e : Edge) → Contains ls e → Contains (counted C.program C.own) e → ⊥
  pub apart : IsDistinct same_edge ls

module _ (C : Opened) where
  -- at the opening, with no link
  pub keeps_begun : Keeps C [] (begun C)
  unfolding IsDistinct
  keeps_begun = record {
    sound = search_laws.opens (with_table C C.own) C.places;
    counts = λ e h. Contains-append_left (counted C.program C.own) [] e h;
    has = λ e h. subst (λ es. Contains es e) (append-nil (counted C.program C.own)) h;
    all = λ whole. whole;
    long = omega arith;
    room = inl refl;
    right = λ e h. absurd (omega (arith, h.1));
    new = λ e h. absurd (omega (arith, h.1));
    apart = tt;
  }

  -- with an accepted link
  module _ (ls : List Edge) (s : Standing) (e : Edge) (h : Keeps C ls s) (right : is_edge C.program e ≡ true) (fresh : is_listed (counted C.program s.edges) e ≡ false) where
    abbrev own : List Edge
    own = counted C.program C.own

    abbrev before : List Edge
    before = counted C.program s.edges

    abbrev later : List Edge
    later = counted C.program (linked C.program s.edges e)

    -- the edges that count are still those, and the links are one more
    link_counts : Among later (own ++ (ls ++ e ∷ []))
    link_counts d had =
        subst (λ es. Contains es d) (append_assoc own ls (e ∷ []))
        (⊎_elim (λ old. Contains-append_left (own ++ ls) (e ∷ []) d (h.counts d old)) (λ same. subst (Contains (own ++ ls ++ e ∷ [])) (sym same) (Contains-push (own ++ ls) e)) (link_laws.counts_only C.program s.edges e d right fresh had))

    -- and those are edges that count
    link_has : Among (own ++ (ls ++ e ∷ [])) later
    link_has d had =
        ⊎_elim (λ old. link_laws.counts_old C.program s.edges e right fresh d (h.has d old)) (λ same. subst (Contains later) same (link_laws.counts_new C.program s.edges e right fresh))
        (Contains-push_cases (own ++ ls) e d (subst (λ es. Contains es d) (sym (append_assoc own ls (e ∷ []))) had))

    -- the new one is none of those
    link_other : Contains (own ++ ls) e → ⊥
    link_other old = not_from_Decides (is_listed before e) (listed_decides before e.from e.to) fresh (h.has e old)

    -- no link is one that counted at the opening, and no two are the same
    link_new : (d : Edge) → Contains (ls ++ e ∷ []) d → Contains own d → ⊥
    link_new d had old = ⊎_elim (λ one. h.new d one old) (λ same. link_other (Contains-append_left own ls e (subst (Contains own) (sym same) old))) (Contains-push_cases ls e d had)

    link_apart : IsDistinct same_edge (ls ++ e ∷ [])
    link_apart =
        IsDistinct-push same_edge_laws ls e h.apart
        (false_from_ne_true (is_listed ls e) (λ listed. link_other (Contains-append_right own ls e ((listed_decides ls e.from e.to).0 listed))))

    -- so all that is kept, where the table has a place and the search is not full
    keeps_link : length s.edges < C.edge_places → s.search.full ≡ false → Keeps C (ls ++ e ∷ []) (linked_at C s e)
    keeps_link space free =
        let long = h.long in
        let longer = link_laws.longer C.program s.edges e in
        let one = length_push ls e in
        record {
          sound = search_laws.links (with_table C s.edges) later C.places s.search h.sound free (link_laws.counts_old C.program s.edges e right fresh);
          counts = link_counts;
          has = link_has;
          all = λ whole. link_laws.all_count C.program s.edges e right fresh (h.all whole);
          long = omega arith;
          room = inr (omega arith);
          right = λ d had. ⊎_elim (h.right d) (λ same. subst (λ f. is_edge C.program f ≡ true) same right) (Contains-push_cases ls e d had);
          new = link_new;
          apart = link_apart;
        }

  -- with any request, and the link that it was if it was accepted
  pub keeps_step : (ls : List Edge) (s : Standing) (r : Request) → Keeps C ls s → Keeps C (ls ++ accepted_one r (answer C s r)) (step C s r)
  keeps_step ls s (Dig allowed) h =
      let t : Standing = record { edges = s.edges; search = dug_at C s allowed } in
      subst (λ es. Keeps C es t) (sym (append-nil ls))
      (record { sound = search_laws.digs (with_table C s.edges) C.places allowed s.search h.sound; counts = h.counts; has = h.has; all = h.all; long = h.long; room = h.room; right = h.right; new = h.new; apart = h.apart })
  keeps_step ls s (Link from to) h =
      let e : Edge = record { from = from; to = to } in
      link_cases C.program s.edges C.edge_places s.search.full e (λ o. Keeps C (ls ++ accepted_one (Link from to) (answered o (Linked (length s.edges + 1)))) (unless o (linked_at C s e) s))
      (λ right new space free. keeps_link ls s e h right new space free) (λ why. subst (λ es. Keeps C es s) (sym (append-nil ls)) h)
  keeps_step ls s Verdict h = subst (λ es. Keeps C es s) (sym (append-nil ls)) h
  keeps_step ls s (Trace room) h = subst (λ es. Keeps C es s) (sym (append-nil ls)) h

  -- what a link is answered, in terms of the linked recipe: its edges are those of the table that count
  pub keeps_linked : (ls : List Edge) (s : Standing) (from to : ℕ) → Keeps C ls s → LinkAnswer C.program (counted C.program C.own ++ ls) (length C.own + length ls) C.edge_places s.search.full from to (answer C s (Link from to))
  keeps_linked ls s from to h =
      let told = subst (λ n. LinkAnswer C.program (counted C.program s.edges) n C.edge_places s.search.full from to (answered (may_link C s from to) (Linked (n + 1)))) h.long (answer_laws.links C.program s.edges C.edge_places s.search.full from to) in
      let back = ap (λ n. answered (may_link C s from to) (Linked (n + 1))) (sym h.long) in
      let e : Edge = record { from = from; to = to } in
      subst (LinkAnswer C.program (counted C.program C.own ++ ls) (length C.own + length ls) C.edge_places s.search.full from to) back
      (record {
        accepts = λ rules new. told.accepts rules (λ there. new (h.counts e there));
        accepted = λ reply is. let a = told.accepted reply is in (a.0, (λ there. a.1 (h.has e there)), a.2, a.3, a.4);
        no_edge = told.no_edge;
        held = λ is. h.counts e (told.held is);
        no_place = told.no_place;
        full_up = told.full_up;
      })

  -- with any requests from there on
  keeps_from : (ls : List Edge) (s : Standing) (rs : List Request) → Keeps C ls s → Keeps C (ls ++ accepted rs (replies_from C s rs)) (after_from C s rs)
  unfolding after_from replies_from accepted
  keeps_from ls s [] h = subst (λ es. Keeps C es s) (sym (append-nil ls)) h
  keeps_from ls s (r ∷ rs) h =
      let one = accepted_one r (answer C s r) in
      subst (λ es. Keeps C es (after_from C (step C s r) rs)) (append_assoc ls one (accepted rs (replies_from C (step C s r) rs))) (keeps_from (ls ++ one) (step C s r) rs (keeps_step ls s r h))

  -- so it is kept after any requests, with the links that were accepted
  pub keeps : (rs : List Request) → Keeps C (links C rs) (after C rs)
  keeps rs = keeps_from [] (begun C) rs keeps_begun

  -- and it is with the same links in another order
  pub keeps_shuffled : (ls ms : List Edge) (s : Standing) → IsPermutation ls ms → Keeps C ls s → Keeps C ms s
  keeps_shuffled ls ms s p h =
      let own = counted C.program C.own in
      let back = IsPermutation-sym ls ms p in
      let same = length_permutation ls ms p in
      let long = h.long in
      record {
        sound = h.sound;
        counts = λ d had. Contains-permutation (own ++ ls) (own ++ ms) d (IsPermutation-append_right own ls ms p) (h.counts d had);
        has = λ d had. h.has d (Contains-permutation (own ++ ms) (own ++ ls) d (IsPermutation-append_right own ms ls back) had);
        all = h.all;
        long = omega arith;
        room = ⊎_elim (λ none. inl (let n = ap length none in nil_from_length ms (omega arith))) (λ space. inr (omega arith)) h.room;
        right = λ d had. h.right d (Contains-permutation ms ls d back had);
        new = λ d had. h.new d (Contains-permutation ms ls d back had);
        apart = IsDistinct-IsPermutation same_edge same_edge_laws.symm ls ms p h.apart;
      }
