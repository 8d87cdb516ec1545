-- The law of an inquiry: what its answers say, clause by clause.
use Rattle.std.proofs.Common.{◌≡◌, ℕ, ◌<◌, ◌≤◌, true, ◌⊎◌, List, ◌++◌, length, Err, refl, ap, ◌∙◌, subst, subst₂, inl, inr, ⊎_elim, arith}
use Rattle.std.proofs.lemmas.Bool.{both_ways, cases_Bool}
use Rattle.model.specs.declared.Point.{Point}
use Rattle.model.specs.declared.Verdict.{Verdict as Outcome}
use Rattle.model.specs.declared.Verdict.TheVariants.{Safe, Unsafe, Full}
use Rattle.model.specs.Facts.{Setting, Yields}
use Rattle.model.specs.Lawful.{Lawful}
use Rattle.model.specs.Searches.{BadTrace, Means, Told, first_trace}
use Rattle.model.specs.Tables.{row_at, any_bad, first_bad, verdict_of}
use Rattle.model.proofs.Edges.{lawful_counted, lawful_with}
use Rattle.model.proofs.Links.{link_laws}
use Rattle.model.proofs.Traces.{first_is_bad}
use Rattle.model.proofs.Verdicts.{none_bad, search_laws}
use Rattle.recipe.specs.declared.grounds.Refusal.TheVariants.{NotUnsafe}
use Rattle.inquiry.specs.Calls.{answered, trace_length}
use Rattle.inquiry.specs.declared.requests.Request.{Request}
use Rattle.inquiry.specs.declared.requests.Request.TheVariants.{Verdict, Trace}
use Rattle.inquiry.specs.declared.requests.Reply.TheVariants.{Traced}
use Rattle.inquiry.specs.Histories.{Opened, with_table, Standing, after, asked, output_by, links, linked_recipe}
use Rattle.asking.specs.Law.{Says, IsRight, HeldAfter, Written, Shown, Law}
use Rattle.inquiry.proofs.Allowing.{trace_cases}
use Rattle.asking.proofs.Anew.{linked_again, safe_again, facts_again}
use Rattle.asking.proofs.Ending.{dig_ends}
use Rattle.inquiry.proofs.Going.{record_grows, after_one, refused_rests, dug_pieces}
use Rattle.asking.proofs.Judging.{said, says, bad_if_unsafe, full_if_full, unsafe_if_bad}
use Rattle.asking.proofs.Keeping.{keeps_linked, keeps}
use Rattle.asking.proofs.Lasting.{bad_lasts}
use Rattle.asking.proofs.Moving.{more_goes_bad, more_bad_trace, more_different}
use Rattle.asking.proofs.Showing.{bad_walks, trace_written}
use Rattle.asking.proofs.Working.{worked_told, stays_filled, dig_answered}

module _ (C : Opened) (rs : List Request) where
  -- the standing then, and its setting: that of the linked recipe, with the edges of the table
  abbrev now : Standing
  now = after C rs

  abbrev X : Setting
  X = with_table C now.edges

  abbrev linked : Setting
  linked = linked_recipe C rs

  -- its verdict is right, and what it holds tells of the setting
  means : Means X C.places now.search (verdict_of C.watch now.search)
  means = search_laws.judges X C.places now.search (keeps C rs).sound

  told : Told X C.places now.search
  told = search_laws.tells X C.places now.search (keeps C rs).sound

  -- a fact is yielded by the linked recipe if it is with the edges of the table, and the other way round
  yields_linked : (s x : Point) → Yields X s x → Yields linked s x
  yields_linked s x y = link_laws.more_facts X linked.edges (keeps C rs).counts y

  yields_now : (s x : Point) → Yields linked s x → Yields X s x
  yields_now s x y = link_laws.more_facts linked X.edges (keeps C rs).has y

  -- its verdict is right of the linked recipe
  right : (v : Outcome) → Says C rs v → IsRight linked C.places v
  right v e = let is : verdict_of C.watch now.search ≡ v = said C rs v e in record {
    safe = λ safe run. means.safe (is ∙ safe) (more_goes_bad linked X.edges (keeps C rs).has run);
    unsafe = λ unsafe. more_goes_bad X linked.edges (keeps C rs).counts (means.unsafe (is ∙ unsafe));
    full = λ full. let more = (means.full (is ∙ full)).1 in (more.0, more.1, more_different X linked.edges (keeps C rs).counts more.0 more.2);
  }

  -- where its own edges are lawful all in use are
  lawful : Lawful C.program C.own → C.edge_places ≤ 4096 → Lawful C.program now.edges
  lawful law few =
      let long = (keeps C rs).long in
      let own = law.few_edges in
      subst (Lawful C.program) ((keeps C rs).all (lawful_counted C.program C.own law))
      (lawful_with C.program C.own now.edges law (⊎_elim (λ none. let n = ap length none in omega arith) (λ places. omega arith) (keeps C rs).room))

  -- it yields each fact that is held
  held_yielded : (i : ℕ) (s x : Point) → HeldAfter C rs s x i → Yields linked s x
  held_yielded i s x h = yields_linked s x (subst₂ (Yields X) h.1 h.2 (_, _, told.yielded i h.0))

  -- and at safe each fact that it yields is held
  safe_held : Says C rs Safe → (s x : Point) → Yields linked s x → (i : ℕ) × HeldAfter C rs s x i
  safe_held e s x y = means.exact (said C rs Safe e) s x (yields_now s x y)

  -- the verdict is unsafe exactly if a bad fact is held
  unsafe_bad : Says C rs Unsafe → any_bad C.watch now.search.rows ≡ true
  unsafe_bad e = bad_if_unsafe C.watch now.search (said C rs Unsafe e)

  bad_unsafe : any_bad C.watch now.search.rows ≡ true → Says C rs Unsafe
  bad_unsafe bad = says C rs Unsafe (unsafe_if_bad C.watch now.search bad)

  -- so it is unsafe as soon as one is held at some place
  held_unsafe : (i : ℕ) → i < length now.search.rows → C.watch.bad (row_at now.search.rows i).state ≡ true → Says C rs Unsafe
  held_unsafe i lt bad =
      ⊎_elim bad_unsafe (λ none. absurd (both_ways (C.watch.bad (row_at now.search.rows i).state) (none_bad C.watch now.search.rows i none lt) bad)) (cases_Bool (any_bad C.watch now.search.rows))

  -- and only then
  unsafe_held : Says C rs Unsafe → (i : ℕ) × (i < length now.search.rows) × (C.watch.bad (row_at now.search.rows i).state ≡ true)
  unsafe_held e = let first = first_is_bad C.watch now.search.rows (unsafe_bad e) in (first_bad C.watch now.search.rows, first.0, first.1)

  -- where one is held the trace of the first one is that of a bad run
  bad_shows : any_bad C.watch now.search.rows ≡ true → BadTrace linked (first_trace C.watch now.search.rows)
  bad_shows bad = more_bad_trace X linked.edges (keeps C rs).counts (first_trace C.watch now.search.rows) (search_laws.shows X C.places now.search (keeps C rs).sound bad)

  -- a trace is refused for want of an unsafe verdict, or the verdict is unsafe
  trace_wanting : (room : ℕ) → (asked C rs (Trace room) ≡ Err NotUnsafe) ⊎ Says C rs Unsafe
  trace_wanting room =
      trace_cases C.watch now.search room (λ o. (answered o (Traced (trace_length C.watch now.search)) ≡ Err NotUnsafe) ⊎ Says C rs Unsafe) (λ bad _ _ _. inr (bad_unsafe bad)) (λ bad _. inr (bad_unsafe bad)) (λ _. inl refl)

module _ (C : Opened) where
  -- after an unsafe verdict all are unsafe
  unsafe_lasts : (rs ss : List Request) → Says C rs Unsafe → Says C (rs ++ ss) Unsafe
  unsafe_lasts rs ss e = bad_unsafe C (rs ++ ss) (bad_lasts C rs ss (unsafe_bad C rs e)).0

  -- and one trace is shown
  unsafe_shows : (rs : List Request) → Says C rs Unsafe → (t : List ℕ) × Shown C rs t
  unsafe_shows rs e = (t, record { first = first; bad = bad; walks = λ ss. bad_walks (linked_recipe C (rs ++ ss)) t (bad ss); written = written })
    where
      t : List ℕ
      t = first_trace C.watch (after C rs).search.rows

      first : (ss : List Request) → first_trace C.watch (after C (rs ++ ss)).search.rows ≡ t
      first ss = (bad_lasts C rs ss (unsafe_bad C rs e)).1

      bad : (ss : List Request) → BadTrace (linked_recipe C (rs ++ ss)) t
      bad ss = subst (BadTrace (linked_recipe C (rs ++ ss))) (first ss) (bad_shows C (rs ++ ss) (bad_lasts C rs ss (unsafe_bad C rs e)).0)

      written : (ss : List Request) (room : ℕ) (output : List ℕ) → Written t room (asked C (rs ++ ss) (Trace room)) output (output_by C (after C (rs ++ ss)) (Trace room) output)
      written ss room output = subst (λ ns. Written ns room (asked C (rs ++ ss) (Trace room)) output (output_by C (after C (rs ++ ss)) (Trace room) output)) (first ss) (trace_written C (after C (rs ++ ss)) room output (bad_lasts C rs ss (unsafe_bad C rs e)).0)

  -- the whole law
  pub asking_law : Law C
  asking_law = record {
    recorded = record_grows C;
    table = λ rs. ((keeps C rs).counts, (keeps C rs).has);
    lawful = lawful C;
    refused = refused_rests C;
    judging = λ rs. after_one C rs Verdict;
    tracing = λ rs room. after_one C rs (Trace room);
    pieces = dug_pieces C;
    dug = dig_answered C;
    linked = λ rs from to. keeps_linked C (links C rs) (after C rs) from to (keeps C rs);
    worked = worked_told C;
    right = right C;
    bad_held = held_unsafe C;
    held_bad = unsafe_held C;
    lasting = unsafe_lasts;
    wanting = trace_wanting C;
    shown = unsafe_shows;
    ending = dig_ends C;
    filled = stays_filled C;
    full = λ rs e. full_if_full C.watch (after C rs).search (said C rs Full e);
    yielded = held_yielded C;
    once = λ rs. (told C rs).once;
    held = safe_held C;
    fresh = λ rs ls e order. (linked_again C rs ls e order, safe_again C rs ls e order, facts_again C rs ls e order);
  }
