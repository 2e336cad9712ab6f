-- What a conversion leaves in its new file.
use Rattle.std.proofs.Common.{◌≡◌, ℕ, List, length, sym, ap, subst, ◌∙◌, inr, arith}
use Rattle.std.proofs.lemmas.List.{take_all}
use Rattle.shelf_port.specs.Files.{LeavesPrefix, with_file, Rose}
use Rattle.shelf_port.specs.Ports.{ShelfState}
use Rattle.location_terms.specs.Instance.{Instance, IsValid}
use Rattle.instance_text.specs.OwnText.{own_text}
use Rattle.instance_text.proofs.ReadBack.{own_text_means}
use Rattle.instance_text.proofs.Lengths.{own_text_short}
use Rattle.dualoc_cli.specs.Command.{Convert}
use Rattle.dualoc_cli.specs.Run.{Run, HasTask}
use Rattle.dualoc_cli.specs.Convert.{IsConverted, HasNewBegun, IsUnconverted}
use Rattle.dualoc_cli.specs.Step.{Covers}
use Rattle.dualoc_cli.proofs.Causes.{rose_over, task_valid}

module _ (r : Run) (new : List ℕ) (I : Instance) (task : HasTask r (Convert new) I) (old after : ShelfState) (part : Covers r old after) (text : List ℕ) (text_is : text ≡ own_text I) where
  pub begun : LeavesPrefix old.files after.files new text → HasNewBegun r new
  begun left =
      let over : LeavesPrefix r.before.shelf.files r.after.shelf.files new text =
      subst (λ f. LeavesPrefix r.before.shelf.files f new text) part.left (subst (λ f. LeavesPrefix f after.files new text) part.files left) in
      record { instance = I; task = task; left = subst (λ t. LeavesPrefix r.before.shelf.files r.after.shelf.files new t) text_is over }

  pub fails : LeavesPrefix old.files after.files new text → Rose (old.writes new) (after.writes new) → IsUnconverted r
  fails left rose =
      record {
        new = new;
        begun = begun left;
        fails = rose_over (r.before.shelf.writes new) (old.writes new) (after.writes new) (r.after.shelf.writes new) (part.writes_since new) (part.writes_until new) rose;
      }

  module _ (whole : after.files ≡ with_file old.files new text) where
    pub begun_whole : HasNewBegun r new
    begun_whole = begun (inr (length text, omega arith, whole ∙ ap (λ t. with_file old.files new t) (sym (take_all (length text) text (omega arith)))))

    pub converted : (m n : ℕ) → m ≡ length I.sites → n ≡ length I.customers → IsConverted r m n
    converted m n sites customers =
        let valid : IsValid I = task_valid r (Convert new) I task in
        record {
          instance = I;
          new = new;
          task = task;
          sites_are = sym sites;
          customers_are = sym customers;
          written = sym part.left ∙ whole ∙ ap (λ f. with_file f new text) part.files ∙ ap (λ t. with_file r.before.shelf.files new t) text_is;
          within = own_text_short I valid;
          read_back = own_text_means I valid;
        }
