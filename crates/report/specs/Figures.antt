-- For private functions alone: no public contract cites this page.
-- The customers of each site, and what is told of a site in a line of the table.
use Rattle.std.specs.Prelude.{◌≡◌, ◌<◌, ℕ, ◌+◌, List, [], ◌∷◌, ◌++◌, length, sum_by, Option, codes, slice_index_or, slice_set, unwrap_or}
use Rattle.location_terms.specs.Instance.{Instance, site_at, lane, demand_of}
use Rattle.number_words.specs.Cost.{micro_text}
use Rattle.number_words.specs.Number.{digits_text}
use Rattle.report.specs.SiteTable.{served_from, spare_text, permille}
use Rattle.report.specs.declared.table.SiteFigures.{SiteFigures}

-- the customers that these serves have from each site, by the sites' places
pub record AreGathered (I : Instance) (serves : List (ℕ × ℕ)) (rows : List (List ℕ)) : Type 0 where
  pub as_many : length rows ≡ length I.sites
  pub each : (i : ℕ) → i < length I.sites → slice_index_or rows i [] ≡ served_from serves (site_at I i).id

-- rows with one more customer in that at a place
abbrev pub with_cust : List (List ℕ) → ℕ → ℕ → List (List ℕ)
with_cust rows i cust = slice_set rows i (slice_index_or rows i [] ++ cust ∷ [])

-- the figures of the site at a place that serves these customers
abbrev pub figures_of : Instance → ℕ → List ℕ → SiteFigures
figures_of I i custs = record {
  id = (site_at I i).id;
  custs = length custs;
  load = sum_by (demand_of I) custs;
  cap = (site_at I i).cap;
  cost = (site_at I i).fixed + sum_by (λ c. unwrap_or (lane I (site_at I i).id c) 0) custs;
}

-- the line of such figures in a plan that costs so much: how much is served, and what it costs
unfoldable pub served_part : SiteFigures → List ℕ
served_part x =
    codes "site " ++ digits_text x.id ++ codes " customers " ++ digits_text x.custs ++ codes " load " ++ micro_text x.load
    ++ codes " spare " ++ spare_text x.cap x.load

unfoldable pub cost_part : SiteFigures → ℕ → List ℕ
cost_part x whole = codes " cost " ++ micro_text x.cost ++ codes " share " ++ digits_text (permille x.cost whole) ++ codes "\n"

abbrev pub figures_line : SiteFigures → ℕ → List ℕ
figures_line x whole = served_part x ++ cost_part x whole
