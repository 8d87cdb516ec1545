-- The test whether an edge is one of a list's says what it should.
use Rattle.std.proofs.Common.{◌≡◌, ℕ, ◌&&◌, eqb, List, Decides, refl, ap}
use Rattle.std.proofs.lemmas.Bool.Decides.{Decides-eqb, Decides-and, Decides-like, Decides-by_or}
use Rattle.std.proofs.lemmas.List.Elements.{Decides-contains}
use Rattle.model.specs.declared.Edge.{Edge}
use Rattle.model.specs.Links.{is_listed}
use Rattle.model.specs.Program.{Leads}

pub listed_decides : (es : List Edge) (a b : ℕ) → Decides (is_listed es (record { from = a; to = b })) (Leads es a b)
listed_decides es a b =
    let edge : Edge = record { from = a; to = b } in
    Decides-contains es edge (is_listed es edge) (Decides-by_or (λ e. eqb e.from a && eqb e.to b) (λ e. e ≡ record { from = a; to = b }) (λ ds. is_listed ds (record { from = a; to = b })) each refl (λ _ _. refl) es)
  where
    each : (e : Edge) → Decides (eqb e.from a && eqb e.to b) (e ≡ record { from = a; to = b })
    each e =
        Decides-like (eqb e.from a && eqb e.to b) (λ h. λ i. record { from = h.0 i; to = h.1 i }) (λ h. (ap (λ d. d.from) h, ap (λ d. d.to) h))
        (Decides-and (eqb e.from a) (eqb e.to b) (Decides-eqb e.from a) (Decides-eqb e.to b))
