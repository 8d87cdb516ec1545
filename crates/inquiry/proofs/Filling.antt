-- Writing a stretch in place: the places that are still to be replaced by what they tell, and what a step does with them.
use Rattle.std.proofs.Common.{◌≡◌, ℕ, zero, suc, ◌+◌, ◌-◌, ◌<◌, ◌≤◌, true, false, eqb, List, [], ◌∷◌, ◌++◌, length, get_or, take, drop, set, reverse, sym, refl, ap, ◌∙◌, subst, cond, arith}
use Rattle.std.specs.List.{flat_map}
use Rattle.std.proofs.lemmas.List.{append-nil, append_assoc, reverse-append, reverse-reverse, length-append, length-set, take-append-drop, get_or-set_same, get_or-take, get_or-drop, take-set-le, drop-set, drop-set-lt}
use Rattle.std.proofs.lemmas.Bool.{ne_eqb, cond-false}
use Rattle.model.specs.declared.Fact.{Fact}
use Rattle.model.specs.Tables.{row_at, Tale, tale_at}
use Rattle.inquiry.specs.Shapes.{span_at, tale_from, stretch_from, with_end}
use Rattle.inquiry.proofs.Stretches.{Hanging, sources, begins, goes_on, spans}

-- what putting a place where its stretch ends leaves and makes: nothing changes behind the end, nor before the place that it takes
module _ (out : List ℕ) (end k : ℕ) where
  with_none : k ≡ 0 → with_end out end k ≡ out
  with_none none = ap (λ j. cond (eqb j 0) out (set out (end - 1) j)) none

  with_some : 1 ≤ k → with_end out end k ≡ set out (end - 1) k
  with_some some = cond-false (eqb k 0) out (set out (end - 1) k) (ne_eqb k 0 (λ e. omega arith))

  pub with_length : length (with_end out end k) ≡ length out
  with_length = by k refl
    where
      by : (j : ℕ) → k ≡ j → length (with_end out end k) ≡ length out
      by zero e = ap length (with_none e)
      by (suc j) e = ap length (with_some (omega arith)) ∙ length-set out (end - 1) k

  with_take : (n : ℕ) → (1 ≤ k → n < end) → take n (with_end out end k) ≡ take n out
  with_take n before = by k refl
    where
      by : (j : ℕ) → k ≡ j → take n (with_end out end k) ≡ take n out
      by zero e = ap (take n) (with_none e)
      by (suc j) e = let lt = before (omega arith) in ap (take n) (with_some (omega arith)) ∙ take-set-le n out (end - 1) k (omega arith)

  with_drop : (n : ℕ) → (1 ≤ k → 1 ≤ end) → end ≤ n → drop n (with_end out end k) ≡ drop n out
  with_drop n some behind = by k refl
    where
      by : (j : ℕ) → k ≡ j → drop n (with_end out end k) ≡ drop n out
      by zero e = ap (drop n) (with_none e)
      by (suc j) e = let one = some (omega arith) in ap (drop n) (with_some (omega arith)) ∙ drop-set-lt n out (end - 1) k (omega arith)

  with_at : 1 ≤ k → 1 ≤ end → end ≤ length out → get_or (with_end out end k) (end - 1) 0 ≡ k
  with_at some one fits = ap (λ xs. get_or xs (end - 1) 0) (with_some some) ∙ get_or-set_same out (end - 1) k 0 (omega arith)

-- lists with the same front have the same elements there, and with the same rest the same elements there
same_front : (n i : ℕ) (xs ys : List ℕ) → take n xs ≡ take n ys → i < n → get_or xs i 0 ≡ get_or ys i 0
same_front n i xs ys e lt = sym (get_or-take n xs i 0 lt) ∙ ap (λ zs. get_or zs i 0) e ∙ get_or-take n ys i 0 lt

same_rest : (n i : ℕ) (xs ys : List ℕ) → drop n xs ≡ drop n ys → n ≤ i → get_or xs i 0 ≡ get_or ys i 0
same_rest n i xs ys e le =
    let split : n + (i - n) ≡ i = omega arith in
    ap (λ j. get_or xs j 0) (sym split) ∙ sym (get_or-drop n xs (i - n) 0) ∙ ap (λ zs. get_or zs (i - n) 0) e ∙ get_or-drop n ys (i - n) 0 ∙ ap (λ j. get_or ys j 0) split

module _ (rows : List Fact) (hang : Hanging rows) where
  abbrev long : ℕ → ℕ
  long k = length (stretch_from rows k)

  -- a stretch has a node
  pub long_some : (k : ℕ) → 1 ≤ k → k ≤ length rows → 1 ≤ long k
  long_some zero some le = absurd (omega arith)
  long_some (suc i) some le = by (eqb (row_at rows i).rule 3) refl
    where
      by : (b : _) → eqb (row_at rows i).rule 3 ≡ b → 1 ≤ length (tale_at rows i).stretch
      by true e = omega (arith, ap (λ (t : Tale). length t.stretch) (begins rows hang i (omega arith) e))
      by false e = omega (arith, ap (λ (t : Tale). length t.stretch) (goes_on rows hang i (omega arith) e))

  -- places that stand in an output before a place `at`, from one on, each where its stretch ends; 0 is no place
  abbrev pub Ends : List ℕ → ℕ → ℕ → List ℕ → Type 0
  Ends out from at [] = from ≡ at
  Ends out from at (k ∷ ks) = (k ≤ length rows) × (from + long k ≤ at) × (1 ≤ k → get_or out (at - 1) 0 ≡ k) × Ends out from (at - long k) ks

  -- they stand there still in an output with the same front
  ends_same : (out new : List ℕ) (n from at : ℕ) (ks : List ℕ) → take n new ≡ take n out → at ≤ n → Ends out from at ks → Ends new from at ks
  ends_same out new n from at [] same le e = e
  ends_same out new n from at (k ∷ ks) same le e = (
    e.0,
    e.1,
    λ some. (let one = long_some k some e.0 in let fits = e.1 in same_front n (at - 1) new out same (omega arith)) ∙ e.2 some,
    ends_same out new n from (at - long k) ks same (omega arith) e.3,
  )

  -- at the front nothing is left to tell
  ends_none : (out : List ℕ) (from : ℕ) (ks : List ℕ) → Ends out from from ks → flat_map (stretch_from rows) ks ≡ []
  ends_none out from [] e = refl
  ends_none out from (k ∷ ks) e =
      let fits = e.1 in
      let none : long k ≡ 0 = omega arith in
      let at : from - long k ≡ from = omega arith in
      nothing (stretch_from rows k) none (ends_none out from ks (subst (λ n. Ends out from n ks) at e.3))
    where
      nothing : (xs : List ℕ) {ys : List ℕ} → length xs ≡ 0 → ys ≡ [] → xs ++ ys ≡ []
      nothing [] n e = e
      nothing (x ∷ xs) n e = absurd (omega arith)

  -- and before it some place stands where its stretch ends
  record Head (out : List ℕ) (from at : ℕ) (all : List ℕ) : Type 0 where
    place : ℕ
    others : List ℕ
    some : 1 ≤ place
    ends : Ends out from at (place ∷ others)
    same : flat_map (stretch_from rows) all ≡ flat_map (stretch_from rows) (place ∷ others)

  head : (out : List ℕ) (from at : ℕ) (ks : List ℕ) → from < at → Ends out from at ks → Head out from at ks
  head out from at [] lt e = absurd (omega arith)
  head out from at (zero ∷ ks) lt e = let h = head out from at ks lt (subst (λ n. Ends out from n ks) (let none : at - 0 ≡ at = omega arith in none) e.3) in record { place = h.place; others = h.others; some = h.some; ends = h.ends; same = h.same }
  head out from at (suc k ∷ ks) lt e = record { place = suc k; others = ks; some = omega arith; ends = e; same = refl }

  -- a stretch is being written to end before a place `end`: what was written from `at` on, and then, backwards, what the places tell that stand before `at`; the rest of the output is as it was
  pub record Filling (old out : List ℕ) (place from at end : ℕ) : Type 0 where
    pub places : List ℕ
    pub done : List ℕ
    pub ends : Ends out from at places
    pub told : stretch_from rows place ≡ reverse done ++ flat_map (stretch_from rows) places
    pub behind : drop at out ≡ done ++ drop end old
    pub front : take from out ≡ take from old
    pub size : length out ≡ length old
    pub fits : (from + long place ≡ end) × (end ≤ length old)
    pub up : at ≤ end

  -- at the beginning just the place of the row stands there
  pub fill_start : (old : List ℕ) (place from end : ℕ) → 1 ≤ place → place ≤ length rows → from + long place ≡ end → end ≤ length old → Filling old (with_end old end place) place from end end
  fill_start old place from end some le e fits =
      let one = long_some place some le in
      record {
        places = place ∷ [];
        done = [];
        ends = (le, omega arith, λ _. with_at old end place some (omega arith) fits, omega arith);
        told = sym (append-nil (stretch_from rows place));
        behind = with_drop old end place end (λ _. omega arith) (omega arith);
        front = with_take old end place from (λ _. omega arith);
        size = with_length old end place;
        fits = (e, fits);
        up = omega arith;
      }

  -- places stand nowhere before the first one
  ends_from : (out : List ℕ) (from at : ℕ) (ks : List ℕ) → Ends out from at ks → from ≤ at
  ends_from out from at [] e = omega arith
  ends_from out from at (k ∷ ks) e = omega (arith, e.1)

  -- at the end the stretch is written
  pub fill_end : {old out : List ℕ} {place from at end : ℕ} → at ≤ from → Filling old out place from at end → out ≡ take (end - long place) old ++ (reverse (stretch_from rows place) ++ drop end old)
  fill_end {old} {out} {place} {from} {at} {end} le f =
      let low = ends_from out from at f.places f.ends in
      let same : at ≡ from = omega arith in
      let ends = subst (λ n. Ends out from n f.places) same f.ends in
      let behind : drop from out ≡ f.done ++ drop end old = ap (λ n. drop n out) (sym same) ∙ f.behind in
      let all : stretch_from rows place ≡ reverse f.done = f.told ∙ ap (λ xs. reverse f.done ++ xs) (ends_none out from f.places ends) ∙ append-nil (reverse f.done) in
      sym (take-append-drop from out) ∙ (λ i. f.front i ++ behind i) ∙ ap (λ xs. take from old ++ (xs ++ drop end old)) (sym (reverse-reverse f.done) ∙ ap reverse (sym all))
      ∙ ap (λ n. take n old ++ (reverse (stretch_from rows place) ++ drop end old)) (let e : from ≡ end - long place = omega (arith, f.fits.0) in e)

  -- while something is left, there is a place before the front
  pub fill_more : {old out : List ℕ} {place from at end : ℕ} → from < at → Filling old out place from at end → Filling old out place from (at - 1 + 1) end
  fill_more {old} {out} {place} {from} {at} {end} lt f = subst (λ n. Filling old out place from n end) (let e : at ≡ at - 1 + 1 = omega arith in e) f

  -- a node is written where a place stood, and behind it what was written
  written : (old out new : List ℕ) (n end node : ℕ) (done : List ℕ) → n < length out → drop n new ≡ drop n (set out n node) → drop (n + 1) out ≡ done ++ drop end old → drop n new ≡ (node ∷ done) ++ drop end old
  written old out new n end node done lt same behind = same ∙ drop-set out n node lt ∙ ap (λ xs. node ∷ xs) behind

  module _ {old out : List ℕ} {place from n end : ℕ} (f : Filling old out place from (n + 1) end) (le : from ≤ n) where
    abbrev first : Head out from (n + 1) f.places
    first = head out from (n + 1) f.places (omega arith) f.ends

    -- the place that stands there
    pub fill_place : (1 ≤ get_or out n 0) × (get_or out n 0 ≤ length rows)
    fill_place =
        let h = first in
        let at : get_or out n 0 ≡ h.place = ap (λ i. get_or out i 0) (let e : n ≡ n + 1 - 1 = omega arith in e) ∙ h.ends.2 h.some in
        let some = h.some in
        (omega arith, omega (arith, h.ends.0))

    abbrev row : Fact
    row = row_at rows (get_or out n 0 - 1)

    -- that place's stretch is the row's, unless rule 3 gave it its node and those of its sources
    place_is : first.place ≡ get_or out n 0
    place_is = let h = first in sym (h.ends.2 h.some) ∙ ap (λ i. get_or out i 0) (let e : n + 1 - 1 ≡ n = omega arith in e)

    tale_is : (k : ℕ) → 1 ≤ k → tale_from rows k ≡ tale_at rows (k - 1)
    tale_is zero some = absurd (omega arith)
    tale_is (suc i) some = ap (tale_at rows) (let e : i ≡ suc i - 1 = omega arith in e)

    tale_here : tale_from rows first.place ≡ tale_at rows (get_or out n 0 - 1)
    tale_here = tale_is first.place first.some ∙ ap (λ k. tale_at rows (k - 1)) place_is

    index : get_or out n 0 - 1 < length rows
    index = let p = fill_place in omega (arith, p.0, p.1)

    -- what is told, with a node more written and the rest in its place
    told_on : (node : ℕ) (rest : List ℕ) (left : List ℕ) → stretch_from rows first.place ≡ node ∷ rest → rest ++ flat_map (stretch_from rows) first.others ≡ left → stretch_from rows place ≡ reverse (node ∷ f.done) ++ left
    told_on node rest left here after =
        f.told ∙ ap (λ xs. reverse f.done ++ xs) (first.same ∙ ap (λ xs. xs ++ flat_map (stretch_from rows) first.others) here ∙ ap (λ xs. node ∷ xs) after)
        ∙ sym (append_assoc (reverse f.done) (node ∷ []) left) ∙ ap (λ xs. xs ++ left) (sym (reverse-append (node ∷ []) f.done))

    -- a row that rule 3 gave tells just its node
    pub fill_begins : eqb row.rule 3 ≡ true → Filling old (set out n row.node) place from n end
    fill_begins call =
        let h = first in
        let here : stretch_from rows h.place ≡ row.node ∷ [] = ap (λ (t : Tale). t.stretch) (tale_here ∙ begins rows hang (get_or out n 0 - 1) index call) in
        let one : long h.place ≡ 1 = ap length here in
        let size = f.size in
        let up = f.up in
        record {
          places = h.others;
          done = row.node ∷ f.done;
          ends = ends_same out (set out n row.node) n from n h.others (take-set-le n out n row.node (omega arith)) (omega arith) (subst (λ m. Ends out from m h.others) (let e : n + 1 - long h.place ≡ n = omega arith in e) h.ends.3);
          told = told_on row.node [] (flat_map (stretch_from rows) h.others) here refl;
          behind = written old out (set out n row.node) n end row.node f.done (omega (arith, f.fits.1)) refl f.behind;
          front = take-set-le from out n row.node le ∙ f.front;
          size = length-set out n row.node ∙ f.size;
          fits = f.fits;
          up = omega arith;
        }

    -- another tells its node, and before it what its sources tell, of which the one that returned is last
    told_here : eqb row.rule 3 ≡ false → stretch_from rows first.place ≡ row.node ∷ (stretch_from rows row.returned ++ stretch_from rows row.source)
    told_here other = ap (λ (t : Tale). t.stretch) (tale_here ∙ goes_on rows hang (get_or out n 0 - 1) index other)

    long_here : eqb row.rule 3 ≡ false → long first.place ≡ 1 + long row.returned + long row.source
    long_here other = ap length (told_here other) ∙ ap suc (length-append (stretch_from rows row.returned) (stretch_from rows row.source)) ∙ omega arith

    -- for what its sources tell there is room before it
    pub record Room : Type 0 where
      pub source : row.source ≤ length rows
      pub returned : row.returned ≤ length rows
      pub span : span_at rows row.returned ≡ long row.returned
      pub some_source : 1 ≤ row.source → 1 ≤ long row.source
      pub some_returned : 1 ≤ row.returned → 1 ≤ long row.returned
      pub enough : from + long row.returned + long row.source ≤ n
      pub inside : n < length out

    pub fill_room : long place ≤ 4294967295 → eqb row.rule 3 ≡ false → Room
    fill_room small other =
        let h = first in
        let R = row.returned in
        let S = row.source in
        let s = sources rows hang (get_or out n 0 - 1) index in
        let in_rows = index in
        let le_R : R ≤ length rows = omega (arith, s.1) in
        let le_S : S ≤ length rows = omega (arith, s.0) in
        let sum = long_here other in
        let room : from + long h.place ≤ n + 1 = h.ends.1 in
        let up = f.up in
        let whole = f.fits.0 in
        let within = f.fits.1 in
        let size = f.size in
        record {
          source = le_S;
          returned = le_R;
          span = spans rows hang R le_R ∙ omega arith;
          some_source = λ some. long_some S some le_S;
          some_returned = λ some. long_some R some le_R;
          enough = omega arith;
          inside = omega arith;
        }

    -- and their places are put there
    pub fill_sources : long place ≤ 4294967295 → eqb row.rule 3 ≡ false → Filling old (with_end (with_end (set out n row.node) n row.returned) (n - span_at rows row.returned) row.source) place from n end
    fill_sources small other =
        let h = first in
        let r = fill_room small other in
        let R = row.returned in
        let S = row.source in
        let one = set out n row.node in
        let two = with_end one n R in
        let end_two = n - span_at rows R in
        let three = with_end two end_two S in
        let span = r.span in
        let enough = r.enough in
        let sum = long_here other in
        let inside = r.inside in
        let up = f.up in
        let size_one : length one ≡ length out = length-set out n row.node in
        let size_two : length two ≡ length one = with_length one n R in
        let least = n - long R - long S in
        let fronts : (m : ℕ) → m ≤ least → take m three ≡ take m out = λ m lt.
        with_take two end_two S m (λ some. let a = r.some_source some in omega arith) ∙ with_take one n R m (λ some. let a = r.some_returned some in omega arith) ∙ take-set-le m out n row.node (omega arith) in
        record {
          places = R ∷ S ∷ h.others;
          done = row.node ∷ f.done;
          ends = (
            r.returned,
            omega arith,
            λ some.
                (let a = r.some_returned some in same_rest end_two (n - 1) three two (with_drop two end_two S end_two (λ own. let b = r.some_source own in omega arith) (omega arith)) (omega arith))
                ∙ with_at one n R some (let a = r.some_returned some in omega arith) (omega arith),
            (
              r.source,
              omega arith,
              λ some. ap (λ i. get_or three i 0) (let e : n - long R - 1 ≡ end_two - 1 = omega arith in e) ∙ with_at two end_two S some (let a = r.some_source some in omega arith) (omega arith),
              ends_same out three least from least h.others (fronts least (omega arith)) (omega arith) (subst (λ m. Ends out from m h.others) (let e : n + 1 - long h.place ≡ least = omega arith in e) h.ends.3),
            ),
          );
          told = told_on row.node (stretch_from rows R ++ stretch_from rows S) (flat_map (stretch_from rows) (R ∷ S ∷ h.others)) (told_here other) (append_assoc (stretch_from rows R) (stretch_from rows S) (flat_map (stretch_from rows) h.others));
          behind = written old out three n end row.node f.done (omega arith) (with_drop two end_two S n (λ own. let b = r.some_source own in omega arith) (omega arith) ∙ with_drop one n R n (λ some. let a = r.some_returned some in omega arith) (omega arith)) f.behind;
          front = fronts from (omega arith) ∙ f.front;
          size = with_length two end_two S ∙ size_two ∙ size_one ∙ f.size;
          fits = f.fits;
          up = omega arith;
        }
