-- For private functions alone: no public contract cites this page.
-- An instance whose sites have other statuses.
use Rattle.std.specs.Prelude.{List, [], ◌∷◌}
use Rattle.location_terms.specs.declared.status.SiteStatus.{SiteStatus}
use Rattle.location_terms.specs.Instance.{Instance, Site}

-- the sites with these statuses in the place of their own
abbrev pub with_statuses : List Site → List SiteStatus → List Site
with_statuses [] statuses = []
with_statuses (x ∷ xs) [] = x ∷ xs
with_statuses (x ∷ xs) (status ∷ statuses) = record x { status = status } ∷ with_statuses xs statuses

-- the instance, each of whose sites has one of these statuses, in their order
abbrev pub with_own_statuses : Instance → List SiteStatus → Instance
with_own_statuses I statuses = record I { sites = with_statuses I.sites statuses }
