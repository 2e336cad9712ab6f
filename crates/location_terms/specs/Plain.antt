-- An instance where only the choice of sites matters: the simple plant location problem of Erlenkotter, Operations Research 26 (1978).
use Rattle.std.specs.Prelude.{◌≡◌, ◌≤◌, length, All, None, IsSome}
use Rattle.location_terms.specs.Instance.{Instance, Site, lane}
use Rattle.location_terms.specs.declared.status.SiteStatus.TheVariants.{Free}

-- the site may be opened, and then it can serve all customers together
pub record IsOpenToAll (I : Instance) (s : Site) : Type 0 where
  pub no_cap : s.cap ≡ None
  pub free : s.status ≡ Free
  pub all_lanes : All (λ c. IsSome (lane I s.id c.id)) I.customers

-- every site may be opened and serve every customer, and any number of sites may be open
pub record IsPlain (I : Instance) : Type 0 where
  pub sites : All (IsOpenToAll I) I.sites
  pub none_asked : I.lo ≡ 0
  pub none_barred : length I.sites ≤ I.hi
