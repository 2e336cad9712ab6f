-- The command `convert`: an instance goes to a new file in the suite's own form.
use Rattle.std.specs.Prelude.{◌≡◌, ℕ, ◌≤◌, List, length, Ok}
use Rattle.shelf_port.specs.Files.{LeavesPrefix, with_file}
use Rattle.location_terms.specs.Instance.{Instance}
use Rattle.fixed_cost.specs.declared.limits.TheConstants.{MAX_INSTANCE_BYTES}
use Rattle.instance_text.specs.Own.{own_meaning}
use Rattle.instance_text.specs.OwnText.{own_text}
use Rattle.dualoc_cli.specs.Command.{Convert}
use Rattle.dualoc_cli.specs.Run.{Run, HasTask, FailsToWrite}

-- The instance that is to be converted has so many sites and customers, and stands in the new file as its one text in the suite's own form; every other file is as at the start.
-- A file with that text is within the limit, and means this instance in the form `own`.
pub record IsConverted (r : Run) (m n : ℕ) : Type 0 where
  pub instance : Instance
  pub new : List ℕ
  pub task : HasTask r (Convert new) instance
  pub sites_are : length instance.sites ≡ m
  pub customers_are : length instance.customers ≡ n
  pub written : r.after.shelf.files ≡ with_file r.before.shelf.files new (own_text instance)
  pub within : length (own_text instance) ≤ MAX_INSTANCE_BYTES
  pub read_back : own_meaning (own_text instance) ≡ Ok instance

-- an instance is to be converted, and the files are as at the start, but the new one may hold a front of the instance's text
pub record HasNewBegun (r : Run) (new : List ℕ) : Type 0 where
  pub instance : Instance
  pub task : HasTask r (Convert new) instance
  pub left : LeavesPrefix r.before.shelf.files r.after.shelf.files new (own_text instance)

-- a write of the new file failed
pub record IsUnconverted (r : Run) : Type 0 where
  pub new : List ℕ
  pub begun : HasNewBegun r new
  pub fails : FailsToWrite r new
