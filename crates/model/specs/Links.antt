-- Links: where a new edge goes in a table of edges, and what more edges change.
use Rattle.std.specs.Prelude.{◌≡◌, ℕ, suc, ◌+◌, true, false, Bool, cond, ◌&&◌, ◌⊎◌, List, [], ◌∷◌, ◌++◌, length, take, drop, Some, None, Option, ◌==◌, Contains}
use Rattle.std.specs.List.{list_any}
use Rattle.model.specs.declared.Edge.{Edge}
use Rattle.model.specs.declared.Frame.{Frame}
use Rattle.model.specs.declared.Point.{Point}
use Rattle.model.specs.Facts.{Setting, Yields, RunIn}
use Rattle.model.specs.Program.{Program, is_edge, rises, counts, counted}

-- an edge is one of a list's
abbrev pub is_listed : List Edge → Edge → Bool
is_listed es e = list_any (λ d. d.from == e.from && d.to == e.to) es

-- the rising place of an edge among others: before the first that counts and rises above it, or else behind all
unfoldable pub place_after : Program → Option Edge → List Edge → Edge → ℕ
place_after p last [] e = 0
place_after p last (d ∷ es) e = cond (counts p last d) (cond (rises e d) 0 (suc (place_after p (Some d) es e))) (suc (place_after p last es e))

abbrev pub rising_place : Program → List Edge → Edge → ℕ
rising_place p es e = place_after p None es e

-- the edges with a new one at its rising place
abbrev pub linked : Program → List Edge → Edge → List Edge
linked p es e = take (rising_place p es e) es ++ e ∷ drop (rising_place p es e) es

-- each edge of one list is one of another
abbrev pub Among : List Edge → List Edge → Type 0
Among es fs = (e : Edge) → Contains es e → Contains fs e

-- a setting, with these edges
abbrev pub with_edges : Setting → List Edge → Setting
with_edges X es = record { program = X.program; edges = es; rule = X.rule; watch = X.watch }

-- of edges with a new one, which is one by the rules and did not count, those count that did, and the new one; and with more edges there are more runs and more facts
pub record LinkLaws : Type 0 where
  pub longer : (p : Program) (es : List Edge) (e : Edge) → length (linked p es e) ≡ length es + 1
  pub counts_new : (p : Program) (es : List Edge) (e : Edge) → is_edge p e ≡ true → is_listed (counted p es) e ≡ false → Contains (counted p (linked p es e)) e
  pub counts_old : (p : Program) (es : List Edge) (e : Edge) → is_edge p e ≡ true → is_listed (counted p es) e ≡ false → Among (counted p es) (counted p (linked p es e))
  pub counts_only : (p : Program) (es : List Edge) (e d : Edge) → is_edge p e ≡ true → is_listed (counted p es) e ≡ false → Contains (counted p (linked p es e)) d → Contains (counted p es) d ⊎ (d ≡ e)
  -- so one edge more counts; and where all edges did, all of them do with the new one
  pub counts_more : (p : Program) (es : List Edge) (e : Edge) → is_edge p e ≡ true → is_listed (counted p es) e ≡ false → length (counted p (linked p es e)) ≡ length (counted p es) + 1
  pub all_count : (p : Program) (es : List Edge) (e : Edge) → is_edge p e ≡ true → is_listed (counted p es) e ≡ false → counted p es ≡ es → counted p (linked p es e) ≡ linked p es e
  pub more_runs : (X : Setting) (es : List Edge) {t : List ℕ} {fs : List Frame} {q : ℕ} → Among X.edges es → RunIn X t fs q → RunIn (with_edges X es) t fs q
  pub more_facts : (X : Setting) (es : List Edge) {s x : Point} → Among X.edges es → Yields X s x → Yields (with_edges X es) s x
