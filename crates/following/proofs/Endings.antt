-- How a text ends tells whether the list is a trace, and a bad one.
use Rattle.std.proofs.Common.{◌≡◌, ℕ, ◌+◌, Bool, true, false, cond, leb, List, [], ◌∷◌, ◌++◌, length, replicate, codes, is_ok, Some, None, Ok, Err, Option, Result, Decides, MatchResult, sym, refl, ap, ◌∙◌, subst, inl, inr, arith}
use Rattle.std.proofs.lemmas.Bool.{false≢true}
use Rattle.std.proofs.lemmas.List.{append_assoc, append-nil, length-replicate}
use Rattle.std.specs.Fmt.{decimal}
use Rattle.model.specs.declared.Edge.{Edge}
use Rattle.model.specs.declared.Frame.{Frame}
use Rattle.model.specs.Access.{Rule, history, stack_inspection}
use Rattle.model.specs.Agreement.{RunTrace}
use Rattle.model.specs.Facts.{Setting}
use Rattle.model.specs.Lawful.{Lawful}
use Rattle.model.specs.Models.{HistoryTrace, StackTrace, LeavesBad}
use Rattle.model.specs.Program.{Program}
use Rattle.model.specs.Runs.{reads}
use Rattle.model.specs.Watches.{Watch, table_watch}
use Rattle.model.proofs.Agreeing.{history_agrees, stack_agrees}
use Rattle.model.proofs.Standing.{edges_obey}
use Rattle.showing.specs.Phrases.{refused_text}
use Rattle.recipe.specs.Bytes.{program_of, edges_of}
use Rattle.recipe.specs.Format.{bytes_of}
use Rattle.recipe.specs.Offence.{first_offence, take_tests, check_tests, number_of}
use Rattle.recipe.specs.declared.grounds.Refusal.{Refusal}
use Rattle.recipe.specs.declared.grounds.Refusal.TheVariants.{NotAStep, StackFull}
use Rattle.recipe.proofs.ReadBack.{read_program, read_edges, take_passes, check_passes, both_none}
use Rattle.walker.specs.declared.stands.Stand.{Stand}
use Rattle.walker.specs.Accepted.{Stands, Refuses}
use Rattle.walker.specs.Walking.{no_frame, Walked, step_from, step_answer, stand_at, advance_by, first_walked, replay_from, replayed}
use Rattle.walker.proofs.Replays.{replay_refused}
use Rattle.walker.proofs.Walks.{told, accepts, enough_room}
use Rattle.following.specs.Right.{EndsIn, TellsOf, Right}
use Rattle.following.specs.Told.{refusal_text, step_text, end_text, rest_text, list_text, setting_in, named_text, file_text, words_text, text_of}
use Rattle.following.specs.Words.{numbers_in}

abbrev refused_end : List ℕ
refused_end = codes " is no step from where the run stands"

-- what stands before an end does not matter
ends_behind : (a b e : List ℕ) → EndsIn b e → EndsIn (a ++ b) e
ends_behind a b e h = (a ++ h.0, ap (λ t. a ++ t) h.1 ∙ sym (append_assoc a h.0 e))

refusal_ends : (e : Refusal) (n place : ℕ) → EndsIn (refusal_text e n place) refused_end
refusal_ends e n place =
    let end : EndsIn refused_end refused_end = ([], refl) in
    let at = ends_behind (codes " at place ") _ refused_end (ends_behind (decimal place) refused_end refused_end end) in
    let node = ends_behind (codes ": node ") _ refused_end (ends_behind (decimal n) _ refused_end at) in
    let detail = ends_behind (codes " ") _ refused_end (ends_behind (decimal place) _ refused_end node) in
    ends_behind (codes "refused ") _ refused_end (ends_behind (decimal (number_of e)) _ refused_end detail)

-- how a text ends, by how the walk did
abbrev Ends : List ℕ → Result Stand Refusal → Type 0
Ends text (Ok s) = EndsIn text (end_text (Ok s))
Ends text (Err e) = EndsIn text refused_end

-- two answers are alike but for the place of a refusal
abbrev Alike : Result Stand Refusal → Result Stand Refusal → Type 0
Alike (Ok s) b = b ≡ Ok s
Alike (Err e) b = (d : Refusal) × (b ≡ Err d)

module _ (X : Setting) where
  abbrev next : Result Stand Refusal → List Frame → ℕ → ℕ → Walked
  next a stack m k = advance_by X.program X.edges X.rule X.watch a stack m k

  alike : (o : Option (ℕ × Frame)) (room q m k : ℕ) → Alike (step_answer X.program X.watch o room q m 0) (step_answer X.program X.watch o room q m k)
  alike None room q m k = (NotAStep k, refl)
  alike (Some s) room q m k = by (leb s.0 room)
    where
      by : (b : Bool) → Alike (cond b (Ok (stand_at X.watch s.0 s.1 (X.watch.step q (reads X.program m)))) (Err (StackFull 0))) (cond b (Ok (stand_at X.watch s.0 s.1 (X.watch.step q (reads X.program m)))) (Err (StackFull k)))
      by true = refl
      by false = (StackFull k, refl)

  -- a text so far, of a walk that was refused
  abbrev So_far : List ℕ → Result Stand Refusal → Type 0
  So_far pre (Ok s) = Unit {0}
  So_far pre (Err e) = EndsIn pre refused_end

  so_far : (pre : List ℕ) (a : Result Stand Refusal) (n place : ℕ) → So_far (pre ++ step_text X.program a n place) a
  so_far pre (Ok s) n place = tt
  so_far pre (Err e) n place = ends_behind pre (refusal_text e n place) refused_end (refusal_ends e n place)

  rest_ends : (ms pre : List ℕ) (place k : ℕ) (a b : Result Stand Refusal) (stack : List Frame) → So_far pre a → Alike a b
      → Ends (pre ++ rest_text X ms place (record { at = a; stack = stack })) (replay_from X.program X.edges X.rule X.watch ms k (record { at = b; stack = stack })).at
  unfolding rest_text replay_from
  rest_ends [] pre place k (Ok s) b stack h same = subst (Ends (pre ++ end_text (Ok s))) (sym same) (pre, refl)
  rest_ends [] pre place k (Err e) b stack h same = subst (Ends (pre ++ [])) (sym same.1) (subst (λ t. EndsIn t refused_end) (sym (append-nil pre)) h)
  rest_ends (m ∷ ms) pre place k (Err e) b stack h same =
      subst (λ x. Ends (pre ++ []) (replay_from X.program X.edges X.rule X.watch (m ∷ ms) k (record { at = x; stack = stack })).at) (sym same.1)
      (subst (λ w. Ends (pre ++ []) w.at) (sym (replay_refused X.program X.edges X.rule X.watch (m ∷ ms) k same.0 stack)) (subst (λ t. EndsIn t refused_end) (sym (append-nil pre)) h))
  rest_ends (m ∷ ms) pre place k (Ok s) b stack h same =
      let v = next (Ok s) stack m 0 in
      let line = step_text X.program v.at m place in
      subst (λ x. Ends (pre ++ (line ++ rest_text X ms (place + 1) v)) (replay_from X.program X.edges X.rule X.watch ms (k + 1) (next x stack m k)).at) (sym same)
      (subst (λ t. Ends t (replay_from X.program X.edges X.rule X.watch ms (k + 1) (next (Ok s) stack m k)).at) (append_assoc pre line (rest_text X ms (place + 1) v))
      (rest_ends ms (pre ++ line) (place + 1) (k + 1) v.at (next (Ok s) stack m k).at v.stack (so_far pre v.at m place) (alike (step_from X.program X.edges X.rule stack s.depth m) (length stack) s.state m k)))

  list_ends : (m : ℕ) (ms : List ℕ) → Ends (list_text X (m ∷ ms)) (replayed X.program X.edges X.rule X.watch (m ∷ ms) (replicate (length (m ∷ ms)) no_frame)).at
  list_ends m ms =
      let stack = replicate (length (m ∷ ms)) no_frame in
      let w = first_walked X.program X.rule X.watch m stack in
      rest_ends ms (step_text X.program w.at m 0) 1 1 w.at w.at w.stack (so_far [] w.at m 0) (same w.at)
    where
      same : (a : Result Stand Refusal) → Alike a a
      same (Ok s) = refl
      same (Err e) = (e, refl)

-- a file's program under a rule, where a transition system has the traces of its runs
module _ (rule : Program → Rule) (p : Program) (es : List Edge) (Trace : List ℕ → Type 0) (agrees : (t : List ℕ) → (Trace t → RunTrace p es (rule p) (table_watch p.rows) t) × (RunTrace p es (rule p) (table_watch p.rows) t → Trace t)) where
  abbrev W : Watch
  W = table_watch p.rows

  tells : (ns text : List ℕ) (a : Result Stand Refusal) (stack : List Frame) → Ends text a → MatchResult a (Stands p es (rule p) W ns stack) (Refuses p es (rule p) W ns stack) → Decides (is_ok a) (RunTrace p es (rule p) W ns) → TellsOf Trace p ns text
  tells ns text (Ok s) stack ends h decides = record {
    bad = λ t leaves. subst (λ b. EndsIn text (cond b (codes "accepted: a bad run") (codes "accepted: a run, and not a bad one"))) (h.bad ∙ ap W.bad h.state ∙ leaves) ends;
    good = λ t leaves. by s.bad refl leaves ends;
    none = λ no. absurd (no ((agrees ns).1 (decides.0 refl)));
  }
    where
      by : (b : Bool) → s.bad ≡ b → (LeavesBad p W ns → ⊥) → EndsIn text (cond s.bad (codes "accepted: a bad run") (codes "accepted: a run, and not a bad one")) → EndsIn text (codes "accepted: a run, and not a bad one")
      by true e leaves k = absurd (leaves (sym (h.bad ∙ ap W.bad h.state) ∙ e))
      by false e leaves k = subst (λ b. EndsIn text (cond b (codes "accepted: a bad run") (codes "accepted: a run, and not a bad one"))) e k
  tells ns text (Err e) stack ends h decides = record {
    bad = λ t leaves. absurd (false≢true (decides.1 ((agrees ns).0 t)));
    good = λ t leaves. absurd (false≢true (decides.1 ((agrees ns).0 t)));
    none = λ no. inl ends;
  }

  abbrev Y : Setting
  Y = record { program = p; edges = es; rule = rule p; watch = W }

  decided : (ns : List ℕ) → Decides (is_ok (replayed p es (rule p) W ns (replicate (length ns) no_frame)).at) (RunTrace p es (rule p) W ns)
  decided ns = let long = length-replicate {A = Frame} (length ns) no_frame in accepts p es (rule p) W ns (replicate (length ns) no_frame) (enough_room p es (rule p) W ns (length (replicate (length ns) no_frame)) (omega arith))

  list_tells : (ns : List ℕ) → TellsOf Trace p ns (list_text Y ns)
  list_tells [] = record {
    bad = λ t leaves. absurd (false≢true ((decided []).1 ((agrees []).0 t)));
    good = λ t leaves. absurd (false≢true ((decided []).1 ((agrees []).0 t)));
    none = λ no. inr (refused_text (NotAStep 0), refl);
  }
  list_tells (m ∷ ms) =
      let stack = replicate (length (m ∷ ms)) no_frame in
      let w = replayed p es (rule p) W (m ∷ ms) stack in
      tells (m ∷ ms) (list_text Y (m ∷ ms)) w.at w.stack (list_ends Y m ms) (told p es (rule p) W (m ∷ ms) stack) (decided (m ∷ ms))

module _ (bs : List ℕ) (words : List (List ℕ)) (p : Program) (es : List Edge) (others : List (List ℕ)) (ns : List ℕ) (law : Lawful p es) (file : bs ≡ bytes_of p es) (says : numbers_in others ≡ Ok ns) where
  no_offence : first_offence (take_tests bs ++ check_tests bs) ≡ None
  no_offence = ap (λ b. first_offence (take_tests b ++ check_tests b)) file ∙ both_none (take_tests (bytes_of p es)) (check_tests (bytes_of p es)) (take_passes p es law) (check_passes p es law)

  program_is : program_of bs ≡ p
  program_is = ap program_of file ∙ read_program p es law

  edges_are : edges_of bs ≡ es
  edges_are = ap edges_of file ∙ read_edges p es law

  said : (name : List ℕ) → words ≡ name ∷ others → text_of bs words ≡ named_text name bs ns
  said name named = ap (text_of bs) named ∙ ap (words_text name bs) says ∙ ap (file_text name bs ns) no_offence

  about : (rule : Program → Rule) → list_text (setting_in rule bs) ns ≡ list_text (record { program = p; edges = es; rule = rule p; watch = table_watch p.rows }) ns
  about rule = λ i. list_text (record { program = program_is i; edges = edges_are i; rule = rule (program_is i); watch = table_watch (program_is i).rows }) ns

  by_history : words ≡ codes "history" ∷ others → TellsOf (HistoryTrace p es) p ns (text_of bs words)
  by_history named = subst (TellsOf (HistoryTrace p es) p ns) (sym (said (codes "history") named ∙ about history)) (list_tells history p es (HistoryTrace p es) (λ t. history_agrees p es es (table_watch p.rows) t law (edges_obey p es law)) ns)

  by_stack : words ≡ codes "stack" ∷ others → TellsOf (StackTrace p es) p ns (text_of bs words)
  by_stack named = subst (TellsOf (StackTrace p es) p ns) (sym (said (codes "stack") named ∙ about stack_inspection)) (list_tells stack_inspection p es (StackTrace p es) (λ t. stack_agrees p es es (table_watch p.rows) t law (edges_obey p es law)) ns)

pub right : (bs : List ℕ) (words : List (List ℕ)) → Right bs words (text_of bs words)
right bs words p es others ns law file says = (by_history bs words p es others ns law file says, by_stack bs words p es others ns law file says)
