-- What a warehouse file of the OR-Library means, with its capacities or without them (Beasley, OR-Library: the files of capacitated and uncapacitated warehouse location). What the word `capacity` stands for, that it may stand beside numbers, and that the words of capacities are read where these are ignored, are choices of this project.
use Rattle.std.specs.Prelude.{ℕ, List, Option, Some, None, Result, Ok, Err, bytes_eq, codes, if◌then◌else◌}
use Rattle.location_terms.specs.Instance.{Instance}
use Rattle.fixed_cost.specs.Amount.{amount_of}
use Rattle.number_words.specs.Words.{PlacedWord, words_of}
use Rattle.fixed_cost.specs.Faults.{fault_at}
use Rattle.fixed_cost.specs.Reading.{Rest, ◌>>=◌, all_of, word_at, in_word, amount_at, many_at, finished}
use Rattle.fixed_cost.specs.declared.fault.FileFault.{FileFault}
use Rattle.fixed_cost.specs.declared.fault.FileKind.TheVariants.{NeedCapacity}
use Rattle.instance_store.specs.Small.{IsSmall}
use Rattle.instance_store.specs.Numbered.{numbered_by_customer}
use Rattle.instance_store.specs.declared.numbered.ListedSite.{ListedSite}
use Rattle.instance_store.specs.declared.numbered.CustLanes.{CustLanes}
use Rattle.table_words.specs.Tables.{sizes_at, lanes_at}
use Rattle.orlib_read.specs.declared.capacities.Capacities.{Capacities}
use Rattle.orlib_read.specs.declared.capacities.Capacities.TheVariants.{Kept, Ignored}

-- what is given for the word `capacity` is within the limit
abbrev pub GivesSmall : Capacities → Type 0
GivesSmall (Kept given) = IsSmall given
GivesSmall Ignored = Unit {0}

-- the amount that is given for the word `capacity`, which is at fault where none is
abbrev pub given_for : PlacedWord → Option ℕ → Result ℕ FileFault
given_for w (Some cap) = Ok cap
given_for w None = Err (fault_at NeedCapacity w)

-- the next word as a capacity: the word `capacity`, or an amount
unfoldable pub capacity_at : Option ℕ → Rest → Result (ℕ × Rest) FileFault
capacity_at given r = do
  w ← word_at r
  cap ← if bytes_eq w.0.text (codes "capacity") then given_for w.0 given else in_word w.0 (amount_of w.0.text)
  Ok (cap, w.1)

-- the capacity of a site: that of its warehouse; or none where capacities are ignored, and then any amount does for the word `capacity`
unfoldable pub limit_at : Capacities → Rest → Result (Option ℕ × Rest) FileFault
limit_at (Kept given) r = do
  cap ← capacity_at given r
  Ok (Some cap.0, cap.1)
limit_at Ignored r = do
  cap ← capacity_at (Some 0) r
  Ok (None, cap.1)

-- a warehouse as a site: its capacity and its fixed cost
unfoldable pub warehouse_at : Capacities → Rest → Result (ListedSite × Rest) FileFault
warehouse_at capacities r = do
  cap ← limit_at capacities r
  fixed ← amount_at cap.1
  Ok (record { fixed = fixed.0; cap = cap.0 }, fixed.1)

-- a customer: its demand, and what it costs to serve all of that demand from each of m warehouses
unfoldable pub customer_at : ℕ → Rest → Result (CustLanes × Rest) FileFault
customer_at m r = do
  demand ← amount_at r
  lanes ← lanes_at m demand.1
  Ok (record { demand = demand.0; lanes = lanes.0 }, lanes.1)

-- the whole file: the numbers of warehouses and of customers, and then each of them
unfoldable pub warehouses_at : Capacities → Rest → Result Instance FileFault
warehouses_at capacities r = do
  sizes ← sizes_at r
  sites ← many_at (λ _. warehouse_at capacities) 0 sizes.0.0 sizes.1
  custs ← many_at (λ _. customer_at sizes.0.0) 0 sizes.0.1 sites.1
  finished (numbered_by_customer sites.0 custs.0) custs.1

-- the instance that the bytes of a file mean, or the first fault of a word
unfoldable pub warehouse_meaning : Capacities → List ℕ → Result Instance FileFault
warehouse_meaning capacities bytes = warehouses_at capacities (all_of (words_of bytes))
