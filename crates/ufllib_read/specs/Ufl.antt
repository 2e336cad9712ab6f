-- What a file in the simple format of UflLib means. That the line `FILE:` may be missing, and that the third number is 0, are choices of this project.
use Rattle.std.specs.Prelude.{◌==◌, ℕ, ◌+◌, List, None, replicate, Result, Ok, codes}
use Rattle.location_terms.specs.Instance.{Instance}
use Rattle.number_words.specs.Words.{words_of}
use Rattle.fixed_cost.specs.Reading.{Rest, ◌>>=◌, all_of, amount_at, size_at, many_at, finished, untitled}
use Rattle.fixed_cost.specs.declared.fault.FileFault.{FileFault}
use Rattle.fixed_cost.specs.declared.fault.FileKind.TheVariants.{BadIndex, NotZero}
use Rattle.instance_store.specs.Numbered.{numbered_by_site}
use Rattle.instance_store.specs.declared.numbered.SiteLanes.{SiteLanes}
use Rattle.table_words.specs.Tables.{sizes_at, lanes_at}

-- the head of the file: the number of facilities, the number of cities, and 0
unfoldable pub head_at : Rest → Result ((ℕ × ℕ) × Rest) FileFault
head_at r = do
  sizes ← sizes_at r
  zero ← size_at NotZero (λ z. z == 0) sizes.1
  Ok (sizes.0, zero.1)

-- facility k as a site: its number, its opening cost, and its connection cost to each of n cities
unfoldable pub site_lanes_at : ℕ → ℕ → Rest → Result (SiteLanes × Rest) FileFault
site_lanes_at n k r = do
  number ← size_at BadIndex (λ x. x == k) r
  fixed ← amount_at number.1
  lanes ← lanes_at n fixed.1
  Ok (record { site = record { fixed = fixed.0; cap = None }; lanes = lanes.0 }, lanes.1)

-- the facilities are the sites, and the n cities customers who demand nothing; any number of sites may open
abbrev pub ufl_instance : ℕ → List SiteLanes → Instance
ufl_instance n sites = numbered_by_site sites (replicate n 0)

-- the whole file behind its title
unfoldable pub ufl_at : Rest → Result Instance FileFault
ufl_at r = do
  sizes ← head_at r
  sites ← many_at (site_lanes_at sizes.0.1) 1 sizes.0.0 sizes.1
  finished (ufl_instance sizes.0.1 sites.0) sites.1

-- the instance that the bytes of a file mean, or the first fault of a word; a first line that begins with FILE: is a title
unfoldable pub ufl_meaning : List ℕ → Result Instance FileFault
ufl_meaning bytes = ufl_at (untitled (codes "FILE:") (all_of (words_of bytes)))
