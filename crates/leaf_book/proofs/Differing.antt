-- In what the instance before an edit and the one behind it differ, and how large it gets.
use Rattle.std.proofs.Common.{◌≡◌, ◌≢◌, ℕ, suc, ◌<◌, ◌≤◌, ◌+◌, refl, ap, sym, subst, ◌∙◌, arith, Bool, true, false, cond, List, [], ◌∷◌, ◌++◌, map, length, length-append, get_or, take, drop, Option, None, Some}
use Rattle.std.specs.Prelude.{◌==◌, not, filter, find, insert, IsSomeAnd, Ok, option_map, unwrap_or, if◌then◌else◌}
use Rattle.std.specs.Bool.{then_some}
use Rattle.std.specs.FinMap.{get}
use Rattle.std.specs.List.Sorted.{IsStrictlyIncreasing}
use Rattle.std.proofs.lemmas.Bool.{ne_eqb, eqb-true}
use Rattle.std.proofs.lemmas.List.{length-map, length-take, length-drop, get_or-map}
use Rattle.std.proofs.lemmas.List.Filters.{length-filter_both}
use Rattle.location_terms.specs.Instance.{Instance, IsValid, Site, Customer, site_at, site_ids, fixed_of}
use Rattle.location_terms.proofs.Places.{length-site_ids}
use Rattle.location_terms.proofs.Table.{pair_apart}
use Rattle.instance_store.specs.Changes.{with_site, with_customer, with_fixed, with_lane_cost}
use Rattle.instance_edits.specs.declared.edit.Edit.{Edit}
use Rattle.instance_edits.specs.declared.edit.Edit.TheVariants.{SetFixed, SetLane, SetDemand, SetCap, SetCount, AddSite, AddCust, DropSite, DropCust, SetStatus}
use Rattle.instance_edits.specs.declared.edit.EditFault.{EditFault}
use Rattle.instance_edits.specs.declared.edit.Inverse.{Inverse}
use Rattle.instance_edits.specs.declared.edit.Inverse.TheVariants.{FormerFixed, FormerLane, FormerDemand, FormerCap, FormerCount, AddedSite, AddedCust, DroppedSite, DroppedCust, FormerStatus}
use Rattle.instance_edits.specs.Edits.{changed, edited, faults_of, unless_refused}
use Rattle.instance_edits.specs.Undo.{suits, put_back, undone, LeadsBack}
use Rattle.instance_edits.proofs.LaneEdits.{get-lanes_with, lanes_with_back}
use Rattle.instance_edits.proofs.ListEdits.{map_back, found}
use Rattle.location_terms.specs.Tree.{Tree}
use Rattle.leaf_book.specs.declared.change.Change.{Change}
use Rattle.leaf_book.specs.declared.change.Change.TheVariants.{Fixed as AtFixed, Lane as AtLane, Site as AtSite, Count, All as Any}
use Rattle.leaf_book.specs.Book.{Book, IsBookOf}
use Rattle.leaf_book.specs.BookDue.{IsBookDue}
use Rattle.leaf_book.specs.Changes.{DifferAtSite, DifferBy, change_of, change_back}

-- One site is changed, but for its id and its status.
module _ (I : Instance) (s : ℕ) (f : Site → Site) (same_id : (x : Site) → (f x).id ≡ x.id) (same_status : (x : Site) → (f x).status ≡ x.status) where
  one_id : (b : Bool) (x : Site) → (if b then f x else x).id ≡ x.id
  one_id true x = same_id x
  one_id false x = refl

  one_status : (b : Bool) (x : Site) → (if b then f x else x).status ≡ x.status
  one_status true x = same_status x
  one_status false x = refl

  -- what goes by the id and other things that stay is the same of each site
  pub mapped_as_before : {A : Type 0} (g : Site → A) → ((x : Site) → g (f x) ≡ g x) → (xs : List Site) → map g (map (λ x. if x.id == s then f x else x) xs) ≡ map g xs
  mapped_as_before g same [] = refl
  mapped_as_before g same (x ∷ xs) = λ k. one (x.id == s) k ∷ mapped_as_before g same xs k
    where
      one : (b : Bool) → g (if b then f x else x) ≡ g x
      one true = same x
      one false = refl

  pub site_is : (i : ℕ) → i < length I.sites → site_at (with_site I s f) i ≡ (if (site_at I i).id == s then f (site_at I i) else site_at I i)
  site_is i b = get_or-map (λ (x : Site). if x.id == s then f x else x) I.sites i _ _ b

  pub site_differs : DifferAtSite (with_site I s f) I s
  site_differs =
      let inside : (i : ℕ) → i < length (with_site I s f).sites → i < length I.sites = λ i b. omega (arith, b, length-map I.sites (λ (x : Site). if x.id == s then f x else x)) in
      record {
        ids = mapped_as_before (λ x. x.id) same_id I.sites;
        customers = refl;
        statuses = λ i b. ap (λ (x : Site). x.status) (site_is i (inside i b)) ∙ one_status ((site_at I i).id == s) (site_at I i);
        others = λ i b other.
            let id : (site_at (with_site I s f) i).id ≡ (site_at I i).id = ap (λ (x : Site). x.id) (site_is i (inside i b)) ∙ one_id ((site_at I i).id == s) (site_at I i) in
            site_is i (inside i b) ∙ ap (λ c. if c then f (site_at I i) else site_at I i) (ne_eqb (site_at I i).id s (λ e. other (id ∙ e)));
        lanes = λ a c other. refl;
        lo = refl;
        hi = refl;
      }

-- One lane is set.
pub lane_differs : (I : Instance) (s c : ℕ) (cost : Option ℕ) → DifferAtSite (with_lane_cost I s c cost) I s
lane_differs I s c cost = record {
  ids = refl;
  customers = refl;
  statuses = λ i b. refl;
  others = λ i b other. refl;
  lanes = λ a d other. get-lanes_with I.lanes s c cost (a, d) ∙ ap (λ b. cond b cost (get I.lanes (a, d))) (pair_apart (a, d) (s, c) (λ e. other (ap (λ (q : ℕ × ℕ). q.0) e)));
  lo = refl;
  hi = refl;
}

pub site_turned : (I J : Instance) (s : ℕ) → DifferAtSite I J s → DifferAtSite J I s
site_turned I J s d =
    let many : length I.sites ≡ length J.sites = sym (length-site_ids I) ∙ ap length d.ids ∙ length-site_ids J in
    record {
      ids = sym d.ids;
      customers = sym d.customers;
      statuses = λ i b. sym (d.statuses i (omega (arith, b, many)));
      others = λ i b other.
          let inside : i < length I.sites = omega (arith, b, many) in
          sym (d.others i inside (λ e. other (sym (same_at d.ids i inside) ∙ e)));
      lanes = λ a c other. sym (d.lanes a c other);
      lo = sym d.lo;
      hi = sym d.hi;
    }
  where
    same_at : site_ids I ≡ site_ids J → (i : ℕ) → i < length I.sites → (site_at I i).id ≡ (site_at J i).id
    same_at ids i b =
        let many : length I.sites ≡ length J.sites = sym (length-site_ids I) ∙ ap length ids ∙ length-site_ids J in
        sym (get_or-map (λ (x : Site). x.id) I.sites i _ 0 b) ∙ ap (λ (xs : List ℕ). get_or xs i 0) ids ∙ get_or-map (λ (x : Site). x.id) J.sites i _ 0 (omega (arith, b, many))

-- what it costs to open a site that isn't there
unfound : {A : Type 0} (p : A → Bool) (xs : List A) (d : A) → ((i : ℕ) → i < length xs → p (get_or xs i d) ≡ false) → find p xs ≡ None
unfound p [] d h = refl
unfound p (x ∷ xs) d h = ap (λ b. cond b (Some x) (find p xs)) (h 0 (omega arith)) ∙ unfound p xs d (λ i b. h (suc i) (omega (arith, b)))

pub fixed_nowhere : (I : Instance) (s : ℕ) → ((i : ℕ) → i < length I.sites → (site_at I i).id ≢ s) → fixed_of I s ≡ 0
fixed_nowhere I s none = ap (λ (o : Option Site). unwrap_or (option_map (λ x. x.fixed) o) 0) (unfound (λ x. x.id == s) I.sites _ (λ i b. ne_eqb (site_at I i).id s (none i b)))

-- A fixed cost that is set, and set back to what it was.
module _ (I : Instance) (rising : IsStrictlyIncreasing (site_ids I)) (s cost : ℕ) where
  fixed_there : (k : ℕ) (d : Site) → k < length I.sites → (get_or I.sites k d).id ≡ s → fixed_of I s ≡ (get_or I.sites k d).fixed
  fixed_there k d b same = ap (λ (o : Option Site). unwrap_or (option_map (λ x. x.fixed) o) 0) (found (λ (x : Site). x.id) I.sites d rising s k b same)

  pub fixed_back : with_fixed (with_fixed I s cost) s (fixed_of I s) ≡ I
  fixed_back = λ i.
      record I {
        sites = map_back (λ x. x.id == s) (λ x. record x { fixed = cost }) (λ x. record x { fixed = fixed_of I s }) I.sites (λ k d b is. (is, λ j. record (get_or I.sites k d) { fixed = fixed_there k d b (eqb-true (get_or I.sites k d).id s is) j })) i;
      }

-- an instance differs from the one to which an inverse leads back in what the edit changed
pub differs_back : (I : Instance) (back : Inverse) → DifferBy (change_of back) I (put_back I back)
differs_back I (FormerFixed s cost) = refl
differs_back I (FormerLane s c cost) = refl
differs_back I (FormerDemand c demand) = tt
differs_back I (FormerCap s most) = site_turned (put_back I (FormerCap s most)) I s (site_differs I s (λ x. record x { cap = most }) (λ _. refl) (λ _. refl))
differs_back I (FormerCount lo hi) = record { sites = refl; customers = refl; lanes = refl }
differs_back I (AddedSite s) = tt
differs_back I (AddedCust c) = tt
differs_back I (DroppedSite place row status) = tt
differs_back I (DroppedCust place row lanes) = tt
differs_back I (FormerStatus s status) = tt

-- and the one to which it leads back differs from the instance in what taking the edit back changes
pub differs_forth : (I : Instance) (back : Inverse) → IsValid (put_back I back) → DifferBy (change_back I back) (put_back I back) I
differs_forth I (FormerFixed s cost) valid = fixed_back I (subst IsStrictlyIncreasing (mapped_as_before I s (λ x. record x { fixed = cost }) (λ _. refl) (λ _. refl) (λ x. x.id) (λ _. refl) I.sites) valid.sites_named.rising) s cost
differs_forth I (FormerLane s c cost) valid = λ k. record I { lanes = lanes_with_back I.lanes s c cost k }
differs_forth I (FormerDemand c demand) valid = tt
differs_forth I (FormerCap s most) valid = site_differs I s (λ x. record x { cap = most }) (λ _. refl) (λ _. refl)
differs_forth I (FormerCount lo hi) valid = record { sites = refl; customers = refl; lanes = refl }
differs_forth I (AddedSite s) valid = tt
differs_forth I (AddedCust c) valid = tt
differs_forth I (DroppedSite place row status) valid = tt
differs_forth I (DroppedCust place row lanes) valid = tt
differs_forth I (FormerStatus s status) valid = tt

-- a book of the instance before a change is due
pub book_due : (change : Change) (I J : Instance) (t : Tree) (b : Book) → DifferBy change I J → IsBookOf b J t → IsBookDue change I t b
book_due (AtFixed s cost) I J t b differ is = subst (λ K. IsBookOf b K t) (sym differ) is
book_due (AtLane s c cost) I J t b differ is = subst (λ K. IsBookOf b K t) (sym differ) is
book_due (AtSite s) I J t b differ is = (J, differ, is)
book_due Count I J t b differ is = (J, differ, is)
book_due Any I J t b differ is = tt

-- How many sites and customers there are behind an edit.

filtered : {A : Type 0} (p : A → Bool) (xs : List A) → length (filter p xs) ≤ length xs
filtered p xs = omega (arith, length-filter_both p (λ x. not (p x)) (λ x. refl) xs)

inserted : {A : Type 0} (xs : List A) (i : ℕ) (y : A) → length (insert xs i y) ≤ length xs + 1
inserted xs i y = omega (arith, length-append (take i xs) (y ∷ drop i xs), length-take i xs, length-drop i xs)

appended : {A : Type 0} (xs : List A) (y : A) → length (xs ++ y ∷ []) ≤ length xs + 1
appended xs y = omega (arith, length-append xs (y ∷ []))

abbrev pub IsNoLarger : Instance → Instance → Type 0
IsNoLarger I J = (length J.sites ≤ length I.sites + 1) × (length J.customers ≤ length I.customers + 1)

site_set : (I : Instance) (s : ℕ) (f : Site → Site) → IsNoLarger I (with_site I s f)
site_set I s f = (omega (arith, length-map I.sites (λ (x : Site). if x.id == s then f x else x)), omega arith)

customer_set : (I : Instance) (c : ℕ) (f : Customer → Customer) → IsNoLarger I (with_customer I c f)
customer_set I c f = (omega arith, omega (arith, length-map I.customers (λ (x : Customer). if x.id == c then f x else x)))

changed_size : (I : Instance) (e : Edit) → IsNoLarger I (changed I e)
changed_size I (SetFixed s cost) = site_set I s (λ x. record x { fixed = cost })
changed_size I (SetLane s c cost) = (omega arith, omega arith)
changed_size I (SetDemand c demand) = customer_set I c (λ x. record x { demand = demand })
changed_size I (SetCap s most) = site_set I s (λ x. record x { cap = most })
changed_size I (SetCount lo hi) = (omega arith, omega arith)
changed_size I (AddSite cost most row) = (appended I.sites _, omega arith)
changed_size I (AddCust demand column) = (omega arith, appended I.customers _)
changed_size I (DropSite s) = (omega (arith, filtered (λ x. not (x.id == s)) I.sites), omega arith)
changed_size I (DropCust c) = (omega arith, omega (arith, filtered (λ x. not (x.id == c)) I.customers))
changed_size I (SetStatus s status) = site_set I s (λ x. record x { status = status })

pub put_back_size : (I : Instance) (back : Inverse) → IsNoLarger I (put_back I back)
put_back_size I (FormerFixed s cost) = site_set I s (λ x. record x { fixed = cost })
put_back_size I (FormerLane s c cost) = (omega arith, omega arith)
put_back_size I (FormerDemand c demand) = customer_set I c (λ x. record x { demand = demand })
put_back_size I (FormerCap s most) = site_set I s (λ x. record x { cap = most })
put_back_size I (FormerCount lo hi) = (omega arith, omega arith)
put_back_size I (AddedSite s) = (omega (arith, filtered (λ x. not (x.id == s)) I.sites), omega arith)
put_back_size I (AddedCust c) = (omega arith, omega (arith, filtered (λ x. not (x.id == c)) I.customers))
put_back_size I (DroppedSite place row status) = (inserted I.sites place _, omega arith)
put_back_size I (DroppedCust place row lanes) = (omega arith, inserted I.customers place _)
put_back_size I (FormerStatus s status) = site_set I s (λ x. record x { status = status })

made : (I J : Instance) (found : Option (Bool × EditFault)) → unless_refused I found ≡ Ok J → I ≡ J
made I J None e = cc
made I J (Some f) e = cc

pub edited_size : (I J : Instance) (e : Edit) → edited I e ≡ Ok J → IsNoLarger I J
edited_size I J e is = subst (IsNoLarger I) (made (changed I e) J (find (λ fault. fault.0) (faults_of I e)) is) (changed_size I e)

-- The instance to which an inverse leads back.

taken : (b : Bool) (X J : Instance) → then_some b X ≡ Some J → X ≡ J
taken true X J e = cc
taken false X J e = cc

pub undone_is : (I J : Instance) (back : Inverse) → undone I back ≡ Some J → put_back I back ≡ J
undone_is I J back e = taken (suits I back) (put_back I back) J e

pub leads_to : (I J : Instance) (back : Inverse) → undone I back ≡ Some J → IsValid J → LeadsBack I back
leads_to I J back e valid = subst (λ (o : Option Instance). IsSomeAnd o IsValid) (sym e) valid
