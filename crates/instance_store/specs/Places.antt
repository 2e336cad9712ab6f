-- What is read of an instance by place and by id.
use Rattle.std.specs.Prelude.{ℕ, List, ◌==◌, Option, map, position}
use Rattle.location_terms.specs.Instance.{Instance, Site, lane}

-- the lanes from a site to the customers, in their order
abbrev pub lanes_from : Instance → Site → List (Option ℕ)
lanes_from I s = map (λ c. lane I s.id c.id) I.customers

-- the first place at which an id stands
abbrev pub place_of : ℕ → List ℕ → Option ℕ
place_of id ids = position (λ x. x == id) ids
