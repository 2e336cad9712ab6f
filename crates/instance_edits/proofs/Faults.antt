-- An edit is accepted where none of its faults is there, and refused for the first one.
use Rattle.std.proofs.Common.{◌≡◌, ◌≢◌, ◌↔◌, ℕ, ◌<◌, Bool, true, false, cond, not, List, [], ◌∷◌, length, find, Contains, Option, None, Some, IsSome, is_some, Result, Ok, Err, IfErr, get_or, refl, sym, ap, subst, ◌∙◌}
use Rattle.std.proofs.lemmas.List.Recursion.{found_at, found_nowhere}
use Rattle.location_terms.specs.declared.status.SiteStatus.TheVariants.{Free}
use Rattle.location_terms.specs.Instance.{Instance, Site, Customer, site_ids, customer_ids}
use Rattle.instance_edits.specs.declared.edit.Edit.{Edit}
use Rattle.instance_edits.specs.declared.edit.Edit.TheVariants.{SetFixed, SetLane, SetDemand, SetCap, SetCount, AddSite, AddCust, DropSite, DropCust, SetStatus}
use Rattle.instance_edits.specs.declared.edit.EditFault.{EditFault}
use Rattle.instance_edits.specs.declared.edit.EditFault.TheVariants.{NoSite, NoMemory}
use Rattle.instance_edits.specs.Edits.{lacks_site, lacks_customer, faults_of, unless_refused, answer_to, changed, edited, Accepts, IsNoneOf, without_instance, allowed}
use Rattle.instance_edits.proofs.ListEdits.{any_key, key_among}

pub none_of : (J K : Instance) (faults : List (Bool × EditFault)) → unless_refused J (find (λ fault. fault.0) faults) ≡ Ok K → IsNoneOf faults
none_of J K [] ok = tt
none_of J K (x ∷ xs) ok = by (none_of J K xs) x.0 refl
  where
    by : (unless_refused J (find (λ fault. fault.0) xs) ≡ Ok K → IsNoneOf xs) → (b : Bool) → x.0 ≡ b → (x.0 ≡ false) × IsNoneOf xs
    by rest true is = let refused : Err x.1 ≡ Ok K = sym (ap (λ b. unless_refused J (cond b (Some x) (find (λ fault. fault.0) xs))) is) ∙ ok in absurd cc
    by rest false isnt = (isnt, rest (sym (ap (λ b. unless_refused J (cond b (Some x) (find (λ fault. fault.0) xs))) isnt) ∙ ok))

-- what is answered is the fault that was found
pub allowed-is : (J : Instance) (found : Option (Bool × EditFault)) → without_instance (unless_refused J found) ≡ answer_to found
allowed-is J None = refl
allowed-is J (Some fault) = refl

-- the first fault that is there is the answer, and where there is none, that there is none
abbrev pub no_fault : Bool × EditFault
no_fault = (false, NoSite)

pub first_is : (faults : List (Bool × EditFault)) (i : ℕ) → i < length faults → ((k : ℕ) → k < i → (get_or faults k no_fault).0 ≡ false) → (get_or faults i no_fault).0 ≡ true → Err (get_or faults i no_fault).1 ≡ answer_to (find (λ fault. fault.0) faults)
first_is faults i below before is = sym (ap answer_to (found_at (find (λ fault. fault.0)) (λ fault. fault.0) Some None refl (λ _ _. refl) faults i no_fault below before is))

pub none_is : (faults : List (Bool × EditFault)) → ((k : ℕ) → k < length faults → (get_or faults k no_fault).0 ≡ false) → Ok tt ≡ answer_to (find (λ fault. fault.0) faults)
none_is faults none = sym (ap answer_to (found_nowhere (find (λ fault. fault.0)) (λ fault. fault.0) Some None refl (λ _ _. refl) faults no_fault none))

-- none of the faults is that memory ran out
abbrev AreOthers : List (Bool × EditFault) → Type 0
AreOthers [] = Unit {0}
AreOthers (x ∷ xs) = (x.1 ≢ NoMemory) × AreOthers xs

other_answer : (faults : List (Bool × EditFault)) → AreOthers faults → (r : Result (Unit {0}) EditFault) → r ≡ answer_to (find (λ fault. fault.0) faults) → IfErr r (λ fault. fault ≢ NoMemory)
other_answer faults others (Ok u) e = tt
other_answer [] others (Err fault) e = absurd cc
other_answer (x ∷ xs) others (Err fault) e = by x.0 (other_answer xs others.1 (Err fault)) e
  where
    by : (b : Bool) → (Err fault ≡ answer_to (find (λ f. f.0) xs) → fault ≢ NoMemory) → Err fault ≡ answer_to (cond b (Some x) (find (λ f. f.0) xs)) → fault ≢ NoMemory
    by true rest is = let same : x.1 ≡ fault = cc in subst (λ f. f ≢ NoMemory) same others.0
    by false rest is = rest is

are_others : (I : Instance) (e : Edit) → AreOthers (faults_of I e)
are_others I (SetFixed s cost) = (λ e. cc, tt)
are_others I (SetLane s c cost) = (λ e. cc, (λ e. cc, tt))
are_others I (SetDemand c demand) = (λ e. cc, tt)
are_others I (SetCap s cap) = (λ e. cc, tt)
are_others I (SetCount lo hi) = (λ e. cc, tt)
are_others I (AddSite cost cap row) = (λ e. cc, (λ e. cc, (λ e. cc, tt)))
are_others I (AddCust demand column) = (λ e. cc, (λ e. cc, (λ e. cc, tt)))
are_others I (DropSite s) = (λ e. cc, (λ e. cc, tt))
are_others I (DropCust c) = (λ e. cc, (λ e. cc, tt))
are_others I (SetStatus s status) = (λ e. cc, tt)

pub never_memory : (I : Instance) (e : Edit) (r : Result (Unit {0}) EditFault) → r ≡ answer_to (find (λ fault. fault.0) (faults_of I e)) → IfErr r (λ fault. fault ≢ NoMemory)
never_memory I e = other_answer (faults_of I e) (are_others I e)

-- where there is no place of an id, the site or the customer is missing
missing_is : (b missing : Bool) (r : Option ℕ) → is_some r ≡ not missing → (IsSome r → b ≡ true) → (b ≡ true → IsSome r) → missing ≡ not b
missing_is true true r none there here = absurd (let some : is_some r ≡ true = here refl in cc)
missing_is true false r none there here = refl
missing_is false true r none there here = refl
missing_is false false r none there here = absurd (let is : false ≡ true = there none in cc)

pub lacks_site-is : (I : Instance) (s : ℕ) (r : Option ℕ) (missing : Bool) → IsSome r ↔ Contains (site_ids I) s → is_some r ≡ not missing → missing ≡ lacks_site I s
lacks_site-is I s r missing known none =
    missing_is _ missing r none (λ some. any_key (λ (x : Site). x.id) I.sites (record { id = 0; fixed = 0; cap = None; status = Free }) s (known.0 some))
    (λ any. known.1 (key_among (λ (x : Site). x.id) I.sites (record { id = 0; fixed = 0; cap = None; status = Free }) s any))

pub lacks_customer-is : (I : Instance) (c : ℕ) (r : Option ℕ) (missing : Bool) → IsSome r ↔ Contains (customer_ids I) c → is_some r ≡ not missing → missing ≡ lacks_customer I c
lacks_customer-is I c r missing known none =
    missing_is _ missing r none (λ some. any_key (λ (x : Customer). x.id) I.customers (record { id = 0; demand = 0 }) c (known.0 some))
    (λ any. known.1 (key_among (λ (x : Customer). x.id) I.customers (record { id = 0; demand = 0 }) c any))

-- a site and a customer that aren't missing are among the ids
has : (b : Bool) → not b ≡ false → b ≡ true
has true e = refl
has false e = cc

pub site-among : (I : Instance) (s : ℕ) → lacks_site I s ≡ false → Contains (site_ids I) s
site-among I s known = key_among (λ (x : Site). x.id) I.sites (record { id = 0; fixed = 0; cap = None; status = Free }) s (has _ known)

pub customer-among : (I : Instance) (c : ℕ) → lacks_customer I c ≡ false → Contains (customer_ids I) c
customer-among I c known = key_among (λ (x : Customer). x.id) I.customers (record { id = 0; demand = 0 }) c (has _ known)

-- what is accepted has none of its faults, and what is refused has one
pub accepted : (I : Instance) (e : Edit) → Ok tt ≡ allowed I e → IsNoneOf (faults_of I e)
accepted I e ok = none_of (changed I e) (changed I e) (faults_of I e) (by (find (λ fault. fault.0) (faults_of I e)) ok)
  where
    by : (found : Option (Bool × EditFault)) → Ok tt ≡ without_instance (unless_refused (changed I e) found) → unless_refused (changed I e) found ≡ Ok (changed I e)
    by None ok = refl
    by (Some fault) ok = absurd cc

pub accepts : (I : Instance) (e : Edit) → Ok tt ≡ allowed I e → Accepts I e
accepts I e ok = by (find (λ fault. fault.0) (faults_of I e)) ok
  where
    by : (found : Option (Bool × EditFault)) → Ok tt ≡ without_instance (unless_refused (changed I e) found) → unless_refused (changed I e) found ≡ Ok (changed I e)
    by None ok = refl
    by (Some fault) ok = absurd cc

pub refused : (I : Instance) (e : Edit) (fault : EditFault) → Err fault ≡ allowed I e → edited I e ≡ Err fault
refused I e fault err = by (find (λ f. f.0) (faults_of I e)) err
  where
    by : (found : Option (Bool × EditFault)) → Err fault ≡ without_instance (unless_refused (changed I e) found) → unless_refused (changed I e) found ≡ Err fault
    by None err = absurd cc
    by (Some f) err = let same : f.1 ≡ fault = cc in ap (λ a. Err a) same
