-- What the record of a call says: each clause is the law, of the requests before the reply.
use Rattle.std.proofs.Common.{◌≡◌, ℕ, ◌+◌, ◌-◌, ◌<◌, ◌≤◌, ◌⊎◌, List, [], ◌∷◌, ◌++◌, length, get_or, take, drop, None, Ok, Err, Result, sym, refl, ap, ◌∙◌, subst, inl, inr, ⊎_elim, arith, append_assoc, append-nil, take-add, IsPermutation}
use Rattle.std.proofs.lemmas.List.{take-append-drop, drop_more, take_more, take_at, take_all, get_or_at, length-take-le, length-map, get_or_default}
use Rattle.model.specs.declared.Edge.{Edge}
use Rattle.model.specs.declared.Fact.{Fact}
use Rattle.model.specs.declared.Verdict.{Verdict as Outcome}
use Rattle.model.specs.declared.Verdict.TheVariants.{Safe, Unsafe, Full, Unfinished}
use Rattle.model.specs.Facts.{Setting, Yields}
use Rattle.model.specs.Lawful.{EdgesObey}
use Rattle.model.specs.Program.{Program, no_edge, EdgeRules, counted}
use Rattle.model.specs.Searches.{BadTrace, facts_of}
use Rattle.model.specs.Tables.{capped, start_of, end_of}
use Rattle.recipe.specs.declared.grounds.Refusal.{Refusal}
use Rattle.recipe.specs.declared.grounds.Refusal.TheVariants.{LongTrace}
use Rattle.inquiry.specs.Calls.{answered, trace_length, report_of}
use Rattle.inquiry.specs.declared.reports.Dug.{Dug as Finished}
use Rattle.inquiry.specs.declared.reports.Report.{Report}
use Rattle.inquiry.specs.declared.requests.Request.{Request}
use Rattle.inquiry.specs.declared.requests.Request.TheVariants.{Dig, Link, Verdict, Trace}
use Rattle.inquiry.specs.declared.requests.Reply.{Reply}
use Rattle.inquiry.specs.declared.requests.Reply.TheVariants.{Dug, Linked, Judged, Traced}
use Rattle.inquiry.specs.Histories.{Opened, Standing, begun, may_link, may_trace, answer, step, output_by, output_from, output_after, after_from, after, asked, replies_from, replies, accepted, links, linked_recipe}
use Rattle.inquiry.specs.Grounds.{LinkAnswer, DigAnswer}
use Rattle.asking.specs.Law.{Law, Says, Walks, Shown, IsRight, is_full, facts_after, finished_in, anew}
use Rattle.asking.specs.Recorded.{no_reply, request_at, reply_at, links_at, linked_at as linked_then, ShowsBad, TraceAnswer, ShownFrom, FactsLeft, AllFactsLeft, RecordTells}
use Rattle.model.proofs.Edges.{counted_rules}
use Rattle.inquiry.proofs.Allowed.{by_allowed}
use Rattle.inquiry.proofs.Allowing.{link_not_long}
use Rattle.inquiry.proofs.Going.{after_more, after_one, replies_more, output_more}
use Rattle.asking.proofs.Carrying.{replies_length}
use Rattle.asking.proofs.Clauses.{asking_law}
use Rattle.asking.proofs.Judging.{said, says}

-- edges that count obey the rules
counted_obeys : (p : Program) (es : List Edge) → EdgesObey p (counted p es)
counted_obeys p es e h = subst (EdgeRules p) (get_or_default (counted p es) h.0 no_edge e h.1 ∙ h.2) (counted_rules p None es h.0 h.1)

-- a list that begins with another has it as its front
begins : (t rest out : List ℕ) → out ≡ t ++ rest → take (length t) out ≡ t
begins t rest out e = ap (take (length t)) e ∙ take_at t rest (length t) refl

-- no reply with a verdict, or with a trace, is a dig's or a link's
not_bad_dug : (d : Finished) → ShowsBad (Ok (Dug d)) → ⊥
not_bad_dug d (inl h) = absurd (let z : ◌≡◌ {A = ℕ} 0 1 = cc in omega arith)
not_bad_dug d (inr (inl h)) = absurd (let e = h.1 in let z : ◌≡◌ {A = ℕ} 0 1 = cc in omega arith)
not_bad_dug d (inr (inr h)) = absurd (let e = h.1 in let z : ◌≡◌ {A = ℕ} 0 1 = cc in omega arith)

not_bad_linked : (n : ℕ) → ShowsBad (Ok (Linked n)) → ⊥
not_bad_linked n (inl h) = absurd (let z : ◌≡◌ {A = ℕ} 0 1 = cc in omega arith)
not_bad_linked n (inr (inl h)) = absurd (let e = h.1 in let z : ◌≡◌ {A = ℕ} 0 1 = cc in omega arith)
not_bad_linked n (inr (inr h)) = absurd (let e = h.1 in let z : ◌≡◌ {A = ℕ} 0 1 = cc in omega arith)

bad_judged : (v : Outcome) → ShowsBad (Ok (Judged v)) → v ≡ Unsafe
bad_judged v (inl h) = cc
bad_judged v (inr (inl h)) = let e = h.1 in cc
bad_judged v (inr (inr h)) = let e = h.1 in cc

-- a refusal shows it only if it is that of a trace that is too long
bad_refused : (why : Refusal) → ShowsBad (Err why) → (n : ℕ) × (why ≡ LongTrace n)
bad_refused why (inl h) = absurd (let z : ◌≡◌ {A = ℕ} 0 1 = cc in omega arith)
bad_refused why (inr (inl h)) = absurd (let e = h.1 in let z : ◌≡◌ {A = ℕ} 0 1 = cc in omega arith)
bad_refused why (inr (inr h)) = (h.0, let e = h.1 in cc)

module _ (C : Opened) where
  -- only a request for the verdict is answered with one, and that is the verdict then
  judged_answer : (s : Standing) (r : Request) (v : Outcome) → answer C s r ≡ Ok (Judged v) → answer C s Verdict ≡ Ok (Judged v)
  judged_answer s (Dig allowed) v e = absurd (let z : ◌≡◌ {A = ℕ} 0 1 = cc in omega arith)
  judged_answer s (Link from to) v e =
      by_allowed (λ o. answered o (Linked (length s.edges + 1)) ≡ Ok (Judged v) → answer C s Verdict ≡ Ok (Judged v)) (may_link C s from to)
      (λ h. absurd (let z : ◌≡◌ {A = ℕ} 0 1 = cc in omega arith)) (λ why h. absurd (let z : ◌≡◌ {A = ℕ} 0 1 = cc in omega arith)) e
  judged_answer s Verdict v e = e
  judged_answer s (Trace room) v e =
      by_allowed (λ o. answered o (Traced (trace_length C.watch s.search)) ≡ Ok (Judged v) → answer C s Verdict ≡ Ok (Judged v)) (may_trace C s room)
      (λ h. absurd (let z : ◌≡◌ {A = ℕ} 0 1 = cc in omega arith)) (λ why h. absurd (let z : ◌≡◌ {A = ℕ} 0 1 = cc in omega arith)) e

  -- two verdicts in one answer are the same
  judged_same : (a : Result Reply Refusal) (v w : Outcome) → a ≡ Ok (Judged v) → a ≡ Ok (Judged w) → v ≡ w
  judged_same a v w e f = cc

  -- what shows that a bad fact is held makes the verdict unsafe
  bad_says : (rs : List Request) (r : Request) → ShowsBad (asked C rs r) → Says C rs Unsafe
  bad_says rs (Dig allowed) h = absurd (not_bad_dug _ h)
  bad_says rs (Link from to) h =
      let s = after C rs in
      let never = link_not_long C.program s.edges C.edge_places s.search.full (record { from = from; to = to }) (Linked (length s.edges + 1)) in
      by_allowed (λ o. ((n : ℕ) → answered o (Linked (length s.edges + 1)) ≡ Err (LongTrace n) → ⊥) → ShowsBad (answered o (Linked (length s.edges + 1))) → Says C rs Unsafe) (may_link C s from to)
      (λ not bad. absurd (not_bad_linked _ bad)) (λ why not bad. absurd (let long = bad_refused why bad in not long.0 (ap (λ w. Err w) long.1))) never h
  bad_says rs Verdict h = ap (λ v. Ok (Judged v)) (bad_judged _ h)
  bad_says rs (Trace room) h = ⊎_elim (λ none. absurd (let long = bad_refused _ (subst ShowsBad none h) in let e = long.1 in let z : ◌≡◌ {A = ℕ} 0 1 = cc in omega arith)) (λ unsafe. unsafe) ((asking_law C).wanting rs room)

  -- where one list is shown an output keeps it as its front
  module _ (rs : List Request) (t : List ℕ) (shown : Shown C rs t) where
    -- through any request
    front_step : (ss : List Request) (r : Request) (out : List ℕ) → take (length t) out ≡ t → take (length t) (output_by C (after C (rs ++ ss)) r out) ≡ t
    front_step ss (Dig allowed) out h = h
    front_step ss (Link from to) out h = h
    front_step ss Verdict out h = h
    front_step ss (Trace room) out h = ⊎_elim (λ fits. begins t (drop (length t) out) _ fits.3) (λ long. ap (take (length t)) long.2 ∙ h) (shown.written ss room out)

    -- and through many
    front_stays : (ss more : List Request) (out : List ℕ) → take (length t) out ≡ t → take (length t) (output_from C (after C (rs ++ ss)) more out) ≡ t
    unfolding output_from
    front_stays ss [] out h = h
    front_stays ss (r ∷ more) out h =
        let next : after C (rs ++ (ss ++ r ∷ [])) ≡ step C (after C (rs ++ ss)) r = ap (after C) (sym (append_assoc rs ss (r ∷ []))) ∙ after_one C (rs ++ ss) r in
        let then = output_by C (after C (rs ++ ss)) r out in
        subst (λ (s : Standing). take (length t) (output_from C s more then) ≡ t) next (front_stays (ss ++ r ∷ []) more then (front_step ss r out h))

module _ {A : Type 0} (xs : List A) (i : ℕ) (d : A) (lt : i < length xs) where
  -- a list is what stands before a place, what stands there and the rest
  parted : xs ≡ take i xs ++ get_or xs i d ∷ drop (i + 1) xs
  parted = sym (take-append-drop i xs) ∙ ap (λ ys. take i xs ++ ys) (drop_more xs i d lt)

  -- its front to a later place goes on with what stands there
  longer_front : (j : ℕ) → i < j → take j xs ≡ take i xs ++ get_or xs i d ∷ take (j - (i + 1)) (drop (i + 1) xs)
  longer_front j later =
      let m = j - (i + 1) in
      let sum : j ≡ (i + 1) + m = omega arith in
      ap (λ n. take n xs) sum ∙ take-add (i + 1) m xs ∙ ap (λ ys. ys ++ take m (drop (i + 1) xs)) (take_more xs i d lt) ∙ append_assoc (take i xs) (get_or xs i d ∷ []) (take m (drop (i + 1) xs))

-- the front to a place that is no earlier is a front of it and more
front_more : {A : Type 0} (xs : List A) (i j : ℕ) → i ≤ j → take j xs ≡ take i xs ++ take (j - i) (drop i xs)
front_more xs i j le = let sum : j ≡ i + (j - i) = omega arith in ap (λ n. take n xs) sum ∙ take-add i (j - i) xs

module _ (C : Opened) (rs : List Request) (log rest : List (Result Reply Refusal)) (log_is : log ≡ replies C rs ++ rest) where
  -- the law, of which the clauses are taken
  abbrev law : Law C
  law = asking_law C

  -- the requests before a place
  abbrev before : ℕ → List Request
  before i = take i rs

  module _ (i : ℕ) (le : i ≤ length rs) where
    -- the record begins with the answers of those before it, as many as the place says
    log_front : (more : List (Result Reply Refusal)) × (log ≡ replies C (before i) ++ more)
    log_front =
        let later = replies_from C (after C (before i)) (drop i rs) in (
          later ++ rest,
          log_is ∙ ap (λ qs. replies C qs ++ rest) (sym (take-append-drop i rs)) ∙ ap (λ log. log ++ rest) (replies_more C (begun C) (before i) (drop i rs)) ∙ append_assoc (replies C (before i)) later rest,
        )

    log_long : length (replies C (before i)) ≡ i
    log_long = replies_length C (begun C) (before i) ∙ length-take-le i rs le

    -- the links accepted before it, read off the record, are those of the law
    links_are : links_at rs log i ≡ links C (before i)
    links_are = ap (accepted (before i)) (ap (take i) log_front.1 ∙ take_at (replies C (before i)) _ i log_long)

    -- and the recipe with these is the linked recipe
    linked_is : linked_then C rs log i ≡ linked_recipe C (before i)
    linked_is = ap (λ es. record { program = C.program; edges = counted C.program C.own ++ es; rule = C.rule; watch = C.watch }) links_are

    -- each edge of it obeys the rules, for those of the edge table that count do
    pub linked_obeys : EdgesObey C.program (linked_then C rs log i).edges
    linked_obeys = subst (λ (X : Setting). EdgesObey C.program X.edges) (sym linked_is) (λ e h. counted_obeys C.program (after C (before i)).edges e ((law.table (before i)).1 e h))

  module _ (i : ℕ) (lt : i < length rs) where
    -- the requests after it
    abbrev behind : List Request
    behind = drop (i + 1) rs

    abbrev here : i ≤ length rs
    here = omega arith

    -- the reply is the answer of the request there after those before it
    answers : reply_at log i ≡ asked C (before i) (request_at rs i)
    unfolding replies_from
    answers =
        let r = request_at rs i in
        let later = replies_from C (step C (after C (before i)) r) behind in
        let parts : log ≡ replies C (before i) ++ asked C (before i) r ∷ (later ++ rest) =
        log_is ∙ ap (λ qs. replies C qs ++ rest) (parted rs i Verdict lt) ∙ ap (λ log. log ++ rest) (replies_more C (begun C) (before i) (r ∷ behind)) ∙ append_assoc (replies C (before i)) (asked C (before i) r ∷ later) rest in
        ap (λ answers. reply_at answers i) parts ∙ get_or_at (replies C (before i)) (asked C (before i) r) (later ++ rest) no_reply i (log_long i here)

    -- a reply with a verdict says that it is the verdict there
    replied : (v : Outcome) → reply_at log i ≡ Ok (Judged v) → Says C (before i) v
    replied v e = judged_answer C (after C (before i)) (request_at rs i) v (sym answers ∙ e)

    -- and one that shows a bad fact that it is unsafe
    replied_bad : ShowsBad (reply_at log i) → Says C (before i) Unsafe
    replied_bad bad = bad_says C (before i) (request_at rs i) (subst ShowsBad answers bad)

    -- which it is from then on
    stays_bad : ShowsBad (reply_at log i) → (j : ℕ) → i ≤ j → Says C (before j) Unsafe
    stays_bad bad j le = subst (λ qs. Says C qs Unsafe) (sym (front_more rs i j le)) (law.lasting (before i) (take (j - i) (drop i rs)) (replied_bad bad))

  -- all the requests
  whole : before (length rs) ≡ rs
  whole = take_all (length rs) rs (omega arith)

  -- a verdict is right of the recipe as it was linked then
  right_then : (i : ℕ) (v : Outcome) → i < length rs → reply_at log i ≡ Ok (Judged v) → IsRight (linked_then C rs log i) C.places v
  right_then i v lt e = subst (λ X. IsRight X C.places v) (sym (linked_is i (omega arith))) (law.right (before i) v (replied i lt v e))

  lasts_then : (i j : ℕ) (v : Outcome) → i ≤ j → j < length rs → ShowsBad (reply_at log i) → reply_at log j ≡ Ok (Judged v) → v ≡ Unsafe
  lasts_then i j v le few bad then = judged_same C (asked C (before j) Verdict) v Unsafe (replied j few v then) (stays_bad i (omega arith) bad j le)

  -- after a dig of as many facts as there are places no reply is unfinished, without an accepted link
  dig_lasts : (i j k : ℕ) → i < j → j < length rs → request_at rs i ≡ Dig k → C.places ≤ k → links_at rs log j ≡ links_at rs log i → reply_at log j ≡ Ok (Judged Unfinished) → ⊥
  dig_lasts i j k later few dig enough same e =
      let lt : i < length rs = omega arith in
      let ss = take (j - (i + 1)) (drop (i + 1) rs) in
      let front : before j ≡ before i ++ Dig k ∷ ss = longer_front rs i Verdict lt j later ∙ ap (λ r. before i ++ r ∷ ss) dig in
      law.ending (before i) ss k enough (ap (links C) (sym front) ∙ sym (links_are j (omega arith)) ∙ same ∙ links_are i (omega arith)) (subst (λ qs. Says C qs Unfinished) front (replied j few Unfinished e))

  -- what a dig and a link were answered
  dug_then : (i k : ℕ) → i < length rs → request_at rs i ≡ Dig k → (d : Finished) × (reply_at log i ≡ Ok (Dug d)) × DigAnswer k (after C (before i)).search (after C (take (i + 1) rs)).search d
  dug_then i k lt dig =
      let told = law.dug (before i) k in
      let front : take (i + 1) rs ≡ before i ++ Dig k ∷ [] = take_more rs i Verdict lt ∙ ap (λ r. before i ++ r ∷ []) dig in
      (told.0, answers i lt ∙ ap (asked C (before i)) dig ∙ told.1, subst (λ qs. DigAnswer k (after C (before i)).search (after C qs).search told.0) (sym front) told.2)

  linked_answer : (i from to : ℕ) → i < length rs → request_at rs i ≡ Link from to
      → LinkAnswer C.program (linked_then C rs log i).edges (length C.own + length (links_at rs log i)) C.edge_places (is_full C (before i)) from to (reply_at log i)
  linked_answer i from to lt link =
      let reply : reply_at log i ≡ asked C (before i) (Link from to) = answers i lt ∙ ap (asked C (before i)) link in
      let same : links_at rs log i ≡ links C (before i) = links_are i (omega arith) in
      let P : List Edge → Result Reply Refusal → Type 0 = λ ls a. LinkAnswer C.program (counted C.program C.own ++ ls) (length C.own + length ls) C.edge_places (is_full C (before i)) from to a in
      subst (λ a. P (links_at rs log i) a) (sym reply) (subst (λ ls. P ls (asked C (before i) (Link from to))) (sym same) (law.linked (before i) from to))

  module _ (blank output : List ℕ) (output_is : output ≡ output_after C rs blank) where
    -- a trace is asked for where one list is shown
    module _ (i : ℕ) (t : List ℕ) (shown : Shown C (before i) t) (j room : ℕ) (le : i ≤ j) (few : j < length rs) (trace : request_at rs j ≡ Trace room) where
      -- the requests between, and what the output holds before it
      abbrev between : List Request
      between = take (j - i) (drop i rs)

      abbrev out : List ℕ
      out = output_after C (before j) blank

      -- the reply there is that of a trace after the requests up to it
      trace_reply : reply_at log j ≡ asked C (before i ++ between) (Trace room)
      trace_reply = answers j few ∙ (λ k. asked C (front_more rs i j le k) (trace k))

      -- the output at the end is that of the requests behind it
      output_end : output ≡ output_from C (after C (before i ++ between)) (behind j few) (output_by C (after C (before i ++ between)) (Trace room) out)
      unfolding output_from
      output_end =
          let split : rs ≡ before j ++ Trace room ∷ behind j few = parted rs j Verdict few ∙ ap (λ r. before j ++ r ∷ behind j few) trace in
          output_is ∙ ap (λ qs. output_after C qs blank) split ∙ output_more C (begun C) (before j) (Trace room ∷ behind j few) blank
          ∙ ap (λ qs. output_from C (after C qs) (behind j few) (output_by C (after C qs) (Trace room) out)) (front_more rs i j le)

      -- so its reply tells of that list, and where it is written the output has it as its front to the end
      trace_tells : TraceAnswer t room output (reply_at log j)
      trace_tells =
          ⊎_elim
          (λ fits. inl (trace_reply ∙ fits.0, fits.1, ap (take (length t)) output_end ∙ front_stays C (before i) t shown between (behind j few) (output_by C (after C (before i ++ between)) (Trace room) out) (begins t (drop (length t) out) _ fits.3)))
          (λ long. inr (trace_reply ∙ long.0, long.1)) (shown.written between room out)

    -- one list is shown from a reply on that shows a bad fact
    shown_from : (i : ℕ) → i < length rs → ShowsBad (reply_at log i) → (t : List ℕ) × ShownFrom C rs log output i t
    shown_from i lt bad = (
      t,
      record {
        bad = λ j le few. subst (λ X. BadTrace X t) (linked_there j le few) (found.1.bad (take (j - i) (drop i rs)));
        walks = λ j le few. subst (λ X. Walks X t) (linked_there j le few) (found.1.walks (take (j - i) (drop i rs)));
        traces = λ j room. trace_tells i t found.1 j room;
      },
    )
      where
        found : (t : List ℕ) × Shown C (before i) t
        found = law.shown (before i) (replied_bad i lt bad)

        t : List ℕ
        t = found.0

        linked_there : (j : ℕ) → i ≤ j → j ≤ length rs → linked_recipe C (before i ++ take (j - i) (drop i rs)) ≡ linked_then C rs log j
        linked_there j le few = ap (linked_recipe C) (sym (front_more rs i j le)) ∙ sym (linked_is j few)

    module _ (facts behind_facts : List Fact) (report : Report) (facts_are : facts ≡ (after C rs).search.rows ++ behind_facts) (report_is : report ≡ report_of C.watch (after C rs).search) where
      -- the recipe as it is linked at the end
      linked_end : linked_then C rs log (length rs) ≡ linked_recipe C rs
      linked_end = linked_is (length rs) (omega arith) ∙ ap (linked_recipe C) whole

      links_end : links_at rs log (length rs) ≡ links C rs
      links_end = links_are (length rs) (omega arith) ∙ ap (links C) whole

      -- the report's verdict is that then
      says_end : (v : Outcome) → report.verdict ≡ v → Says C rs v
      says_end v e = says C rs v (sym (ap (λ (r : Report). r.verdict) report_is) ∙ e)

      verdict_is : (v : Outcome) → Says C rs v → report.verdict ≡ v
      verdict_is v e = ap (λ (r : Report). r.verdict) report_is ∙ said C rs v e

      held_is : report.held ≡ length (facts_after C rs)
      held_is = ap (λ (r : Report). r.held) report_is ∙ sym (length-map (after C rs).search.rows (λ r. (start_of r, end_of r)))

      -- the facts left are those held
      rows_are : take report.held facts ≡ (after C rs).search.rows
      rows_are = (λ k. take (ap (λ (r : Report). r.held) report_is k) (facts_are k)) ∙ take_at (after C rs).search.rows behind_facts (length (after C rs).search.rows) refl

      -- full at some time, so full at the end
      full_end : (i : ℕ) → i ≤ length rs → Says C (before i) Full → report.held ≡ C.places
      full_end i le full = held_is ∙ ap (λ qs. length (facts_after C qs)) (sym (take-append-drop i rs)) ∙ (law.filled (before i) (drop i rs) (law.full (before i) full)).1

      -- what the record says
      pub record_tells : RecordTells C rs log facts output report
      record_tells = record {
        answers = answers;
        law = law;
        right = right_then;
        reports = subst (λ X. IsRight X C.places report.verdict) (sym linked_end) (law.right rs report.verdict (says_end report.verdict refl));
        lasting = lasts_then;
        ends_bad = λ i lt bad. verdict_is Unsafe (subst (λ qs. Says C qs Unsafe) whole (stays_bad i lt bad (length rs) (omega arith)));
        shown = shown_from;
        ending = dig_lasts;
        ended = λ i k lt dig enough same e.
            let split : rs ≡ before i ++ Dig k ∷ behind i lt = parted rs i Verdict lt ∙ ap (λ r. before i ++ r ∷ behind i lt) dig in
            law.ending (before i) (behind i lt) k enough (ap (links C) (sym split) ∙ sym links_end ∙ same ∙ links_are i (omega arith)) (subst (λ qs. Says C qs Unfinished) split (says_end Unfinished e));
        full = λ i lt e. full_end i (omega arith) (replied i lt Full e);
        ends_full = λ e. full_end (length rs) (omega arith) (subst (λ qs. Says C qs Full) (sym whole) (says_end Full e));
        dug = dug_then;
        linked = linked_answer;
        held = held_is;
        worked = ap (λ (r : Report). r.worked) report_is ∙ law.worked rs ∙ ap (finished_in 0) (ap (replies C) (sym whole) ∙ sym (ap (take (length rs)) (log_front (length rs) (omega arith)).1 ∙ take_at (replies C (before (length rs))) _ (length rs) (log_long (length rs) (omega arith))));
        left = subst (λ X. FactsLeft X (take report.held facts)) (sym linked_end) (subst (FactsLeft (linked_recipe C rs)) (sym rows_are) (record { yielded = law.yielded rs; once = law.once rs }));
        all_left = λ safe.
            let now = says_end Safe safe in
            let P : Setting → List Edge → List Fact → Type 0 = AllFactsLeft C in
            subst (λ X. P X (links_at rs log (length rs)) (take report.held facts)) (sym linked_end)
            (subst (λ ls. P (linked_recipe C rs) ls (take report.held facts)) (sym links_end)
            (subst (P (linked_recipe C rs) (links C rs)) (sym rows_are) (record { exact = law.held rs now; fresh = λ ms order. (law.fresh rs ms now order).2 })));
      }
