-- The tables of a judgement fit every recipe, and what is found under both rules is right.
use Rattle.std.proofs.Common.{◌≡◌, ◌≢◌, ℕ, ◌+◌, ◌≤◌, true, cond, ◌&&◌, leb, ltb, min, ◌⊎◌, List, [], ◌∷◌, ◌++◌, length, get_or, drop, None, Ok, Err, Option, Result, sym, refl, ap, ◌∙◌, subst, inl, inr, arith}
use Rattle.std.proofs.lemmas.Bool.{le-leb, leb-true, and_parts, cond_both, both_ways}
use Rattle.std.proofs.lemmas.Bool.Decides.{nat_tests}
use Rattle.std.proofs.lemmas.List.{take_at}
use Rattle.recipe.specs.declared.Recipe.{Recipe}
use Rattle.recipe.specs.declared.grounds.Refusal.{Refusal}
use Rattle.recipe.specs.declared.grounds.Refusal.TheVariants.{TooMany, UnfitTable, NotUnsafe, LongTrace}
use Rattle.recipe.specs.Recipes.{file_of, program, own_edges}
use Rattle.recipe.proofs.Standing.{rows_count}
use Rattle.model.specs.Access.{Rule, history, stack_inspection}
use Rattle.model.specs.Agreement.{RunTrace}
use Rattle.model.specs.Facts.{Setting}
use Rattle.model.specs.Lawful.{Lawful, EdgesObey}
use Rattle.model.specs.Models.{HistoryTrace, StackTrace, LeavesBad}
use Rattle.model.specs.declared.Edge.{Edge}
use Rattle.model.proofs.Agreeing.{history_agrees, stack_agrees, bad_run, bad_trace}
use Rattle.model.proofs.Edges.{lawful_counted}
use Rattle.model.proofs.Standing.{edges_obey}
use Rattle.model.proofs.Verdicts.{search_laws}
use Rattle.model.specs.Program.{Program}
use Rattle.model.specs.Searches.{BadTrace, first_trace}
use Rattle.model.specs.Tables.{Search, capped, dug, opened, any_bad}
use Rattle.model.specs.declared.Verdict.TheVariants.{Unsafe}
use Rattle.model.specs.Watches.{Watch, table_watch}
use Rattle.recipe.specs.Bytes.{program_of, edges_of}
use Rattle.recipe.specs.Format.{bytes_of, Legal as LegalFile}
use Rattle.recipe.proofs.ReadBack.{read_program, read_edges}
use Rattle.inquiry.specs.Calls.{Allowed, answered, unless, counts_fit, tables_fit, fit_answer, trace_length, trace_allowed, trace_output}
use Rattle.inquiry.proofs.Allowed.{by_allowed}
use Rattle.inquiry.proofs.Wholes.{comes_so}
use Rattle.asking.specs.Asked.{recorded}
use Rattle.inquiry.specs.Histories.{Opened, Standing, begun, step, output_by, after, after_from, output_after, output_from, asked, may_trace, replies_from}
use Rattle.inquiry.specs.declared.requests.Request.{Request}
use Rattle.inquiry.specs.declared.requests.Request.TheVariants.{Dig, Trace}
use Rattle.inquiry.specs.declared.requests.Reply.{Reply}
use Rattle.inquiry.specs.declared.requests.Reply.TheVariants.{Traced}
use Rattle.inquiry.proofs.Allowing.{trace_cases}
use Rattle.asking.proofs.Judging.{bad_if_unsafe, unsafe_if_bad}
use Rattle.std.proofs.Math.Seq.{drop-append_seam}
use Rattle.recipe.specs.Offence.{first_offence, take_tests, check_tests}
use Rattle.judging.specs.Parts.{written_of, nodes_written}
use Rattle.judging.specs.Judged.{Sizes, usual, setting_in, searched, Found, found_by, found_in, both_in, room_in, refused_first, judgement_in, judgement_of, told_length, over, with_trace, TooLong, Shows, ByModel, RightOf, JudgedRight}

-- a table of facts that fits has at most 65,536 places
few_places : (own n m : ℕ) → tables_fit own n m ≡ true → n ≤ 65536
few_places own n m fit = let a = and_parts (leb own m) (leb m 4096 && leb n 65536) fit in leb-true n 65536 (and_parts (leb m 4096) (leb n 65536) a.1).1

-- so does one that an inquiry can be opened over
pub few_if_fit : (X : Setting) (own n m : ℕ) → fit_answer X own n m ≡ Ok tt → n ≤ 65536
few_if_fit X own n m =
    cond_both (counts_fit X.rule.values X.watch.states) (cond (tables_fit own n m) (Ok tt) (Err UnfitTable)) (Err TooMany) (λ (o : Allowed). o ≡ Ok tt → n ≤ 65536)
    (λ _. cond_both (tables_fit own n m) (Ok tt) (Err UnfitTable) (λ (o : Allowed). o ≡ Ok tt → n ≤ 65536) (λ fit _. few_places own n m fit) (λ _ e. absurd (cc)))
    (λ _ e. absurd (cc))

-- then as many facts are worked as there are places
pub all_worked : (n : ℕ) → n ≤ 65536 → min n 65536 ≡ n
all_worked n few = omega arith

-- a call that is refused leaves the same, whatever it would have left
pub left_so : {A : Type 0} (o : Allowed) (e : Refusal) (a b old : A) → o ≡ Err e → unless o a old ≡ unless o b old
left_so o e a b old is = ap (λ p. unless p a old) is ∙ sym (ap (λ p. unless p b old) is)

-- a capped length fits in as much room as can be told exactly if it fits in all there is
fits_alike : (n places : ℕ) → leb (capped n) (min 4294967295 places) ≡ leb (capped n) places
fits_alike n places = grind (arith, nat_tests)

-- an inquiry into a file under a rule, in tables of n and m places and with an output that holds this, of which k facts are worked and then the trace is asked for
module _ (rule : Program → Rule) (bs : List ℕ) (n m : ℕ) (out : List ℕ) (k : ℕ) where
  abbrev X : Setting
  X = setting_in rule bs

  abbrev pub case_in : Opened
  case_in = record { program = program_of bs; own = edges_of bs; rule = rule (program_of bs); watch = table_watch (program_of bs).rows; places = n; edge_places = m }

  abbrev pub first_asked : List Request
  first_asked = Dig k ∷ []

  -- as much room is asked for as can be, so the trace has that of the output
  abbrev room : ℕ
  room = min 4294967295 (length out)

  abbrev pub all_asked : List Request
  all_asked = Dig k ∷ Trace room ∷ []

  abbrev worked : Search
  worked = dug X n k (opened X n)

  abbrev found : Found
  found = found_by X worked (length out)

  -- which is all the room there is, for a length that can be told
  room_is : trace_allowed X.watch worked room ≡ trace_allowed X.watch worked (length out)
  room_is = ap (λ b. cond (any_bad X.watch worked.rows) (cond (b && ltb (trace_length X.watch worked) 4294967295) (Ok tt) (Err (LongTrace (trace_length X.watch worked)))) (Err NotUnsafe)) same
    where
      same : leb (trace_length X.watch worked) room ≡ leb (trace_length X.watch worked) (length out)
      same = fits_alike (length (first_trace X.watch worked.rows)) (length out)

  -- a trace leaves the inquiry as it was
  pub search_is : (after case_in all_asked).search ≡ worked
  unfolding after_from
  search_is = refl

  pub edges_are : (after case_in all_asked).edges ≡ edges_of bs
  unfolding after_from
  edges_are = refl

  -- and the output with the trace, if it is written
  pub output_is : output_after case_in all_asked out ≡ with_trace found.trace out
  unfolding output_from after_from
  output_is =
      by_allowed (λ o. unless o (trace_output X.watch worked out) out ≡ with_trace (answered o (first_trace X.watch worked.rows)) out) (trace_allowed X.watch worked room) refl (λ why. refl)
      ∙ ap (λ o. with_trace (answered o (first_trace X.watch worked.rows)) out) room_is

  -- the second reply is the one to the request for the trace, and tells its length
  pub reply_is : (o : Allowed) (log : List (Result Reply Refusal)) (d : Result Reply Refusal) → o ≡ Ok tt → log ≡ recorded o case_in all_asked ++ [] → written_of (get_or log 1 d) ≡ told_length found.trace
  unfolding after_from replies_from
  reply_is o log d ok is =
      let second : get_or log 1 d ≡ asked case_in first_asked (Trace room) = ap (λ xs. get_or xs 1 d) (is ∙ ap (λ p. recorded p case_in all_asked ++ []) ok) in
      ap written_of second ∙ ap (λ p. written_of (answered p (Traced (trace_length X.watch worked)))) room_is
      ∙ trace_cases X.watch worked (length out) (λ p. written_of (answered p (Traced (trace_length X.watch worked))) ≡ told_length (answered p (first_trace X.watch worked.rows)))
      (λ _ _ _ same. ap Ok same) (λ _ _. refl) (λ _. refl)

-- what a legal file says is lawful
legal_lawful : (bs : List ℕ) → LegalFile bs → Lawful (program_of bs) (edges_of bs)
legal_lawful bs legal =
    let p = legal.0 in
    let es = legal.1 in
    subst (λ b. Lawful (program_of b) (edges_of b)) (sym legal.3)
    (subst (λ q. Lawful q (edges_of (bytes_of p es))) (sym (read_program p es legal.2)) (subst (Lawful p) (sym (read_edges p es legal.2)) legal.2))

-- what is found of a file under a rule
module _ (rule : Program → Rule) (places room : ℕ) (bs : List ℕ) where
  abbrev Y : Setting
  Y = setting_in rule bs

  abbrev end : Search
  end = searched rule places bs

  abbrev here : Found
  here = found_in rule places room bs

  -- the trace is that of a bad run, or too long
  shows_so : Shows Y room here
  shows_so = record { unsafe = λ e. bad (bad_if_unsafe Y.watch end e); none = λ other. none other }
    where
      bad : any_bad Y.watch end.rows ≡ true → (t : List ℕ) × BadTrace Y t × ((here.trace ≡ Ok t) ⊎ ((here.trace ≡ Err (LongTrace (capped (length t)))) × TooLong t room))
      bad is =
          let t = first_trace Y.watch end.rows in (
            t,
            search_laws.shows Y places end (search_laws.digs Y places places (opened Y places) (search_laws.opens Y places)) is,
            trace_cases Y.watch end room (λ o. (answered o t ≡ Ok t) ⊎ ((answered o t ≡ Err (LongTrace (capped (length t)))) × TooLong t room)) (λ _ _ _ _. inl refl) (λ _ over. inr (refl, over)) (λ good. absurd (cc)),
          )

      none : here.report.verdict ≢ Unsafe → here.trace ≡ Err NotUnsafe
      none other =
          let t = first_trace Y.watch end.rows in
          trace_cases Y.watch end room (λ o. answered o t ≡ Err NotUnsafe) (λ is _ _ _. absurd (other (unsafe_if_bad Y.watch end is))) (λ is _. absurd (other (unsafe_if_bad Y.watch end is))) (λ _. refl)

  -- what is found is right, of runs and of the traces of the model that the rule agrees with
  pub right_so : (Traces : Program → List Edge → List ℕ → Type 0) → LegalFile bs → ((p : Program) (own es : List Edge) (W : Watch) (t : List ℕ) → Lawful p own → EdgesObey p es → (Traces p es t → RunTrace p es (rule p) W t) × (RunTrace p es (rule p) W t → Traces p es t))
      → RightOf rule Traces places room bs here
  right_so Traces legal agrees = record { comes = comes_so Y places places; shows = shows_so; by_model = modelled }
    where
      law : Lawful (program_of bs) (edges_of bs)
      law = legal_lawful bs legal

      edges_are_own : Y.edges ≡ edges_of bs
      edges_are_own = lawful_counted (program_of bs) (edges_of bs) law

      agrees_here : (t : List ℕ) → (Traces Y.program Y.edges t → RunTrace Y.program Y.edges Y.rule Y.watch t) × (RunTrace Y.program Y.edges Y.rule Y.watch t → Traces Y.program Y.edges t)
      agrees_here t = agrees (program_of bs) (edges_of bs) Y.edges Y.watch t law (subst (EdgesObey (program_of bs)) (sym edges_are_own) (edges_obey (program_of bs) (edges_of bs) law))

      along : (t : List ℕ) → Traces (program_of bs) (edges_of bs) t → Traces Y.program Y.edges t
      along t h = subst (λ es. Traces (program_of bs) es t) (sym edges_are_own) h

      by : (t : List ℕ) × BadTrace Y t × ((here.trace ≡ Ok t) ⊎ ((here.trace ≡ Err (LongTrace (capped (length t)))) × TooLong t room))
          → (t : List ℕ) × Traces (program_of bs) (edges_of bs) t × LeavesBad (program_of bs) (table_watch (program_of bs).rows) t × ((here.trace ≡ Ok t) ⊎ ((here.trace ≡ Err (LongTrace (capped (length t)))) × TooLong t room))
      by s = let h = bad_trace Y (Traces Y.program Y.edges) agrees_here s.0 s.1 in (s.0, subst (λ es. Traces (program_of bs) es s.0) edges_are_own h.0, h.1, s.2)

      of_bytes : ByModel (Traces (program_of bs) (edges_of bs)) (program_of bs) room here
      of_bytes = record { safe = λ e t h bad. (comes_so Y places places).means.safe e (bad_run Y (Traces Y.program Y.edges) agrees_here t (along t h) bad); unsafe = λ e. by (shows_so.unsafe e) }

      -- the program and edges that the file was written for are those that its bytes say
      modelled : (p : Program) (es : List Edge) → Lawful p es → bs ≡ bytes_of p es → ByModel (Traces p es) p room here
      modelled p es lawful is =
          let program_is = ap program_of is ∙ read_program p es lawful in
          let edges_is = ap edges_of is ∙ read_edges p es lawful in
          subst (λ q. ByModel (Traces q es) q room here) program_is (subst (λ fs. ByModel (Traces (program_of bs) fs) (program_of bs) room here) edges_is of_bytes)

-- what is found under both rules is right
pub both_right : (z : Sizes) (bs : List ℕ) → LegalFile bs → JudgedRight z bs (Ok (both_in z bs))
both_right z bs legal = (legal, right_so history z.facts z.history bs HistoryTrace legal history_agrees, right_so stack_inspection z.facts z.stack bs StackTrace legal stack_agrees)

-- a recipe has at most 16 rows, and both rules have 65,536 values
module _ (r : Recipe) where
  rows_fit : leb (length (program r).rows + 1) 65536 ≡ true
  rows_fit = let h = rows_count r in let few = r.layout.rows_few in le-leb _ _ (omega arith)

  -- so only the tables can be unfit
  pub fit_is : (rule : Program → Rule) → ((p : Program) → (rule p).values ≡ 65536) → (z : Sizes) → fit_answer (setting_in rule (file_of r)) (length (own_edges r)) z.facts z.edges ≡ room_in z (file_of r)
  fit_is rule values z =
      let Z = setting_in rule (file_of r) in
      let counts : counts_fit Z.rule.values Z.watch.states ≡ true = (λ i. counts_fit (values (program r) i) Z.watch.states) ∙ rows_fit in
      ap (λ c. cond c (room_in z (file_of r)) (Err TooMany)) counts

-- the usual tables fit every legal file
module _ (bs : List ℕ) (legal : LegalFile bs) where
  usual_fit : tables_fit (length (edges_of bs)) usual.facts usual.edges ≡ true
  usual_fit = ap (λ b. b && true) (le-leb (length (edges_of bs)) 4096 (legal_lawful bs legal).few_edges)

  -- so it is judged in them
  pub judged_so : first_offence (take_tests bs ++ check_tests bs) ≡ None → judgement_of bs ≡ Ok (both_in usual bs)
  judged_so none = ap (λ o. answered o (both_in usual bs)) (ap (λ f. refused_first f (room_in usual bs)) none ∙ ap (λ b. cond b (Ok tt) (Err UnfitTable)) usual_fit)

  -- and not refused
  refused_wrong : (e : Refusal) → JudgedRight usual bs (Err e) → ⊥
  refused_wrong e (inl not_legal) = not_legal legal
  refused_wrong e (inr unfit) = both_ways (tables_fit (length (edges_of bs)) usual.facts usual.edges) unfit.2 usual_fit

-- a file that is refused there is not legal
pub not_legal : (bs : List ℕ) (e : Refusal) → judgement_of bs ≡ Err e → JudgedRight usual bs (judgement_of bs) → LegalFile bs → ⊥
not_legal bs e judged right legal = refused_wrong bs legal e (subst (JudgedRight usual bs) judged right)

-- in memory of any sizes what a legal file comes to is right
pub right_in : (z : Sizes) (bs : List ℕ) → first_offence (take_tests bs ++ check_tests bs) ≡ None → LegalFile bs → JudgedRight z bs (judgement_in z bs)
right_in z bs none legal =
    subst (λ (f : Option Refusal). JudgedRight z bs (answered (refused_first f (room_in z bs)) (both_in z bs))) (sym none)
    (cond_both (tables_fit (length (edges_of bs)) z.facts z.edges) (Ok tt) (Err UnfitTable) (λ (o : Allowed). JudgedRight z bs (answered o (both_in z bs))) (λ _. both_right z bs legal) (λ unfit. inr (legal, refl, unfit)))

-- a table that is given the same list twice has it in its first places
pub over_twice : {A : Type 0} (xs old : List A) → over xs (over xs old) ≡ over xs old
over_twice xs old = ap (λ ys. xs ++ ys) (drop-append_seam xs (drop (length xs) old))

-- the nodes that are said to be written are those of the trace
pub written_is : (trace : Result (List ℕ) Refusal) (old : List ℕ) → nodes_written (with_trace trace old) (told_length trace) ≡ trace
written_is (Ok ns) old = ap Ok (take_at ns (drop (length ns) old) (length ns) refl)
written_is (Err e) old = refl
