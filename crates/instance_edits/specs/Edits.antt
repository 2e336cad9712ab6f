-- What an edit makes of an instance, or the first fault for which it is refused.
use Rattle.std.specs.Prelude.{◌≡◌, ◌≤◌, ◌==◌, ℕ, ◌+◌, ◌*◌, Bool, false, ◌||◌, not, List, [], ◌∷◌, ◌++◌, length, find, fold, Option, None, Some, Result, Ok, Err, nat_lt}
use Rattle.std.specs.List.{list_any}
use Rattle.location_terms.specs.declared.status.SiteStatus.TheVariants.{Free}
use Rattle.location_terms.specs.declared.limits.TheConstants.{MAX_AMOUNT, MAX_SITES, MAX_CUSTOMERS, MAX_LANES, MAX_ID}
use Rattle.location_terms.specs.Instance.{Instance, site_ids, customer_ids}
use Rattle.instance_store.specs.Small.{IsSmall, AreSmall}
use Rattle.instance_store.specs.Changes.{with_fixed, with_cap, with_status, with_demand, with_lane_cost, with_count, with_row, with_column, without_site, without_customer}
use Rattle.instance_edits.specs.declared.edit.Edit.{Edit}
use Rattle.instance_edits.specs.declared.edit.Edit.TheVariants.{SetFixed, SetLane, SetDemand, SetCap, SetCount, AddSite, AddCust, DropSite, DropCust, SetStatus}
use Rattle.instance_edits.specs.declared.edit.EditFault.{EditFault}
use Rattle.instance_edits.specs.declared.edit.EditFault.TheVariants.{NoSite, NoCustomer, LaneCount, BadCount, LastOne, TooMany, IdsSpent}

-- the instance with one more site, which gets the next id, goes last and is free
abbrev pub with_new_site : Instance → ℕ → Option ℕ → List (Option ℕ) → Instance
with_new_site I cost cap row = record I {
  sites = I.sites ++ record { id = I.next_site; fixed = cost; cap = cap; status = Free } ∷ [];
  lanes = with_row I.lanes I.next_site (customer_ids I) row;
  next_site = I.next_site + 1;
}

-- the instance with one more customer, who gets the next id and goes last
abbrev pub with_new_customer : Instance → ℕ → List (Option ℕ) → Instance
with_new_customer I demand column = record I {
  customers = I.customers ++ record { id = I.next_customer; demand = demand } ∷ [];
  lanes = with_column I.lanes I.next_customer (site_ids I) column;
  next_customer = I.next_customer + 1;
}

-- Edits.

-- each amount of the edit is within its limit: an edit is asked for with such amounts alone
abbrev pub HasAmounts : Edit → Type 0
HasAmounts (SetFixed s cost) = cost ≤ MAX_AMOUNT
HasAmounts (SetLane s c cost) = IsSmall cost
HasAmounts (SetDemand c demand) = demand ≤ MAX_AMOUNT
HasAmounts (SetCap s cap) = IsSmall cap
HasAmounts (SetCount lo hi) = Unit {0}
HasAmounts (AddSite cost cap row) = (cost ≤ MAX_AMOUNT) × IsSmall cap × AreSmall row
HasAmounts (AddCust demand column) = (demand ≤ MAX_AMOUNT) × AreSmall column
HasAmounts (DropSite s) = Unit {0}
HasAmounts (DropCust c) = Unit {0}
HasAmounts (SetStatus s status) = Unit {0}

-- what the edit makes of an instance that doesn't refuse it
abbrev pub changed : Instance → Edit → Instance
changed I (SetFixed s cost) = with_fixed I s cost
changed I (SetLane s c cost) = with_lane_cost I s c cost
changed I (SetDemand c demand) = with_demand I c demand
changed I (SetCap s cap) = with_cap I s cap
changed I (SetCount lo hi) = with_count I lo hi
changed I (AddSite cost cap row) = with_new_site I cost cap row
changed I (AddCust demand column) = with_new_customer I demand column
changed I (DropSite s) = without_site I s
changed I (DropCust c) = without_customer I c
changed I (SetStatus s status) = with_status I s status

-- whether the instance has no site, and no customer, of this id
abbrev pub lacks_site : Instance → ℕ → Bool
lacks_site I s = not (list_any (λ x. x.id == s) I.sites)

abbrev pub lacks_customer : Instance → ℕ → Bool
lacks_customer I c = not (list_any (λ x. x.id == c) I.customers)

-- whether a limit is passed by so many sites and customers
abbrev pub are_too_many : ℕ → ℕ → Bool
are_too_many m n = nat_lt MAX_SITES m || nat_lt MAX_CUSTOMERS n || nat_lt MAX_LANES (m * n)

-- whether no id is left, since the next one is past the last
abbrev pub are_ids_spent : ℕ → Bool
are_ids_spent next = next == MAX_ID + 1

-- the faults that an edit may have, in their order, each with whether it is there
abbrev pub faults_of : Instance → Edit → List (Bool × EditFault)
faults_of I (SetFixed s cost) = (lacks_site I s, NoSite) ∷ []
faults_of I (SetLane s c cost) = (lacks_site I s, NoSite) ∷ (lacks_customer I c, NoCustomer) ∷ []
faults_of I (SetDemand c demand) = (lacks_customer I c, NoCustomer) ∷ []
faults_of I (SetCap s cap) = (lacks_site I s, NoSite) ∷ []
faults_of I (SetCount lo hi) = (nat_lt hi lo || nat_lt MAX_SITES hi, BadCount) ∷ []
faults_of I (AddSite cost cap row) =
    (not (length row == length I.customers), LaneCount) ∷ (are_too_many (length I.sites + 1) (length I.customers), TooMany) ∷ (are_ids_spent I.next_site, IdsSpent) ∷ []
faults_of I (AddCust demand column) =
    (not (length column == length I.sites), LaneCount) ∷ (are_too_many (length I.sites) (length I.customers + 1), TooMany) ∷ (are_ids_spent I.next_customer, IdsSpent) ∷ []
faults_of I (DropSite s) = (lacks_site I s, NoSite) ∷ (length I.sites == 1, LastOne) ∷ []
faults_of I (DropCust c) = (lacks_customer I c, NoCustomer) ∷ (length I.customers == 1, LastOne) ∷ []
faults_of I (SetStatus s status) = (lacks_site I s, NoSite) ∷ []

-- none of the faults is there
abbrev pub IsNoneOf : List (Bool × EditFault) → Type 0
IsNoneOf [] = Unit {0}
IsNoneOf (x ∷ xs) = (x.0 ≡ false) × IsNoneOf xs

-- the instance, or the fault that was found
abbrev pub unless_refused : Instance → Option (Bool × EditFault) → Result Instance EditFault
unless_refused I None = Ok I
unless_refused I (Some found) = Err found.1

-- that there is no fault, or the fault that was found
abbrev pub answer_to : Option (Bool × EditFault) → Result (Unit {0}) EditFault
answer_to None = Ok tt
answer_to (Some found) = Err found.1

-- the instance that the edit makes, or the first of its faults that is there
abbrev pub edited : Instance → Edit → Result Instance EditFault
edited I e = unless_refused (changed I e) (find (λ fault. fault.0) (faults_of I e))

-- the instance accepts the edit
abbrev pub Accepts : Instance → Edit → Type 0
Accepts I e = edited I e ≡ Ok (changed I e)

-- whether the edit is accepted, or the first of its faults
abbrev pub without_instance : Result Instance EditFault → Result (Unit {0}) EditFault
without_instance (Ok I) = Ok tt
without_instance (Err fault) = Err fault

abbrev pub allowed : Instance → Edit → Result (Unit {0}) EditFault
allowed I e = without_instance (edited I e)

-- what comes has lanes of its own, and a customer who goes has them at every site: memory may run out
abbrev pub TakesMemory : Edit → Type 0
TakesMemory (SetFixed s cost) = ⊥
TakesMemory (SetLane s c cost) = ⊥
TakesMemory (SetDemand c demand) = ⊥
TakesMemory (SetCap s cap) = ⊥
TakesMemory (SetCount lo hi) = ⊥
TakesMemory (AddSite cost cap row) = Unit {0}
TakesMemory (AddCust demand column) = Unit {0}
TakesMemory (DropSite s) = ⊥
TakesMemory (DropCust c) = Unit {0}
TakesMemory (SetStatus s status) = ⊥

-- one more edit, where those before it were accepted
abbrev pub edited_next : Result Instance EditFault → Edit → Result Instance EditFault
edited_next (Ok I) e = edited I e
edited_next (Err fault) e = Err fault

-- the instance that the edits make one after another, or the first fault
abbrev pub edits_applied : Instance → List Edit → Result Instance EditFault
edits_applied I es = fold edited_next (Ok I) es
