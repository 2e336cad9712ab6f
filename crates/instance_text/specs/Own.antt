-- What a text in the suite's own form means: the instance, or the first fault of a word. Version 1 makes every site free; in version 2 a word says the status of each.
use Rattle.std.specs.Prelude.{ℕ, Bool, true, false, ◌&&◌, List, map, Option, None, Some, Result, Ok, Err, nat_lt, nat_le, codes, bytes_eq, if◌then◌else◌}
use Rattle.location_terms.specs.declared.limits.TheConstants.{MAX_SITES}
use Rattle.location_terms.specs.declared.status.SiteStatus.{SiteStatus}
use Rattle.location_terms.specs.declared.status.SiteStatus.TheVariants.{Free, MustOpen, MustClose}
use Rattle.location_terms.specs.Instance.{Instance, lanes_of}
use Rattle.number_words.specs.Words.{PlacedWord, words_of}
use Rattle.fixed_cost.specs.Amount.{amount_of, count_of}
use Rattle.fixed_cost.specs.Faults.{fault_at}
use Rattle.fixed_cost.specs.Reading.{Rest, ◌>>=◌, all_of, word_at, in_word, amount_at, is_within, many_from, many_at, finished}
use Rattle.fixed_cost.specs.declared.fault.FileFault.{FileFault}
use Rattle.fixed_cost.specs.declared.fault.FileKind.{FileKind}
use Rattle.fixed_cost.specs.declared.fault.FileKind.TheVariants.{BadSize, BadIndex, BadWord}
use Rattle.instance_store.specs.declared.rows.SiteRow.{SiteRow}
use Rattle.instance_store.specs.declared.rows.CustRow.{CustRow}
use Rattle.instance_store.specs.Parts.{site_of, customer_of, cust_row_ids}
use Rattle.table_words.specs.Tables.{is_customer_count}

-- Words.

-- what is left behind the next word, where that is this one
abbrev pub behind_word : List ℕ → PlacedWord × Rest → Result Rest FileFault
behind_word word w = if bytes_eq w.0.text word then Ok w.1 else Err (fault_at BadWord w.0)

unfoldable pub fixed_at : List ℕ → Rest → Result Rest FileFault
fixed_at word r = do
  w ← word_at r
  behind_word word w

-- a count that passes a test, or the fault of this kind at the place of the word
abbrev pub tested_count : FileKind → (ℕ → Bool) → PlacedWord → ℕ → Result ℕ FileFault
tested_count kind test w n = if test n then Ok n else Err (fault_at kind w)

-- the next word as a count
unfoldable pub count_at : FileKind → (ℕ → Bool) → Rest → Result (ℕ × Rest) FileFault
count_at kind test r = do
  w ← word_at r
  n ← in_word w.0 (count_of w.0.text)
  count ← tested_count kind test w.0 n
  Ok (count, w.1)

-- an id, which is greater than the last one and below the next
unfoldable pub id_at : (next last : ℕ) → Rest → Result (ℕ × Rest) FileFault
id_at next last r = count_at BadIndex (λ id. nat_lt last id && nat_lt id next) r

-- an amount that is there
unfoldable pub some_in : PlacedWord → Result (Option ℕ) FileFault
some_in w = do
  n ← in_word w (amount_of w.text)
  Ok (Some n)

-- the next word as an amount, or none for the word `none`
unfoldable pub maybe_at : Rest → Result (Option ℕ × Rest) FileFault
maybe_at r = do
  w ← word_at r
  amount ← if bytes_eq w.0.text (codes "none") then Ok None else some_in w.0
  Ok (amount, w.1)

-- Parts.

-- whether sites have a word for their status, as in version 2
abbrev pub version_in : PlacedWord → Result Bool FileFault
version_in w = if bytes_eq w.text (codes "1") then Ok false else (if bytes_eq w.text (codes "2") then Ok true else Err (fault_at BadWord w))

unfoldable pub version_at : Rest → Result (Bool × Rest) FileFault
version_at r = do
  w ← word_at r
  statuses ← version_in w.0
  Ok (statuses, w.1)

-- how many there are, and the next id
unfoldable pub size_line_at : List ℕ → (ℕ → Bool) → Rest → Result ((ℕ × ℕ) × Rest) FileFault
size_line_at word test r = do
  behind ← fixed_at word r
  many ← count_at BadSize test behind
  behind_next ← fixed_at (codes "next") many.1
  next ← count_at BadSize (λ n. nat_le 1 n) behind_next
  Ok ((many.0, next.0), next.1)

-- the least and the greatest number of open sites
unfoldable pub count_line_at : Rest → Result ((ℕ × ℕ) × Rest) FileFault
count_line_at r = do
  behind ← fixed_at (codes "count") r
  lo ← count_at BadSize (λ n. nat_le n MAX_SITES) behind
  hi ← count_at BadSize (is_within lo.0 MAX_SITES) lo.1
  Ok ((lo.0, hi.0), hi.1)

-- a customer behind the one of the last id
unfoldable pub customer_line_at : (next last : ℕ) → Rest → Result (CustRow × Rest) FileFault
customer_line_at next last r = do
  behind ← fixed_at (codes "customer") r
  id ← id_at next last behind
  demand ← amount_at id.1
  Ok (record { id = id.0; demand = demand.0 }, demand.1)

abbrev pub status_of_word : PlacedWord → Result SiteStatus FileFault
status_of_word w =
    if bytes_eq w.text (codes "free") then Ok Free
    else (if bytes_eq w.text (codes "open") then Ok MustOpen else (if bytes_eq w.text (codes "closed") then Ok MustClose else Err (fault_at BadWord w)))

-- a status, for which version 1 has no word
unfoldable pub status_at : Bool → Rest → Result (SiteStatus × Rest) FileFault
status_at false r = Ok (Free, r)
status_at true r = do
  w ← word_at r
  status ← status_of_word w.0
  Ok (status, w.1)

-- a site behind the one of the last id, with its status and a lane or none to each of n customers
unfoldable pub site_line_at : (statuses : Bool) (n next last : ℕ) → Rest → Result ((SiteRow × SiteStatus) × Rest) FileFault
site_line_at statuses n next last r = do
  behind ← fixed_at (codes "site") r
  id ← id_at next last behind
  fixed ← amount_at id.1
  cap ← maybe_at fixed.1
  status ← status_at statuses cap.1
  lanes ← many_at (λ _. maybe_at) 0 n status.1
  Ok ((record { id = id.0; fixed = fixed.0; cap = cap.0; lanes = lanes.0 }, status.0), lanes.1)

-- The whole text.

-- the instance of these counts, next ids, customers and sites
abbrev pub own_instance : ℕ × ℕ → (next_site next_customer : ℕ) → List CustRow → List (SiteRow × SiteStatus) → Instance
own_instance count next_site next_customer custs sites = record {
  sites = map (λ s. site_of s.1 s.0) sites;
  customers = map customer_of custs;
  lanes = lanes_of (map (λ s. s.0.id) sites) (cust_row_ids custs) (map (λ s. s.0.lanes) sites);
  lo = count.0;
  hi = count.1;
  next_site = next_site;
  next_customer = next_customer;
}

-- what stands behind the head: the customers, the sites and the end
unfoldable pub body_at : Bool → (m n count : ℕ × ℕ) → Rest → Result Instance FileFault
body_at statuses m n count r = do
  custs ← many_from (λ _ c. c.id) (customer_line_at n.1) 0 n.0 r
  sites ← many_from (λ _ s. s.0.id) (site_line_at statuses n.0 m.1) 0 m.0 custs.1
  behind_end ← fixed_at (codes "end") sites.1
  finished (own_instance count m.1 n.1 custs.0 sites.0) behind_end

-- the version, and how many sites and customers there are, and may be open, each with the next ids; and the rest
unfoldable pub own_at : Rest → Result Instance FileFault
own_at r = do
  behind ← fixed_at (codes "dualoc-instance") r
  statuses ← version_at behind
  m ← size_line_at (codes "sites") (is_within 1 MAX_SITES) statuses.1
  n ← size_line_at (codes "customers") (is_customer_count m.0.0) m.1
  count ← count_line_at n.1
  body_at statuses.0 m.0 n.0 count.0 count.1

-- the instance that the bytes mean, or the first fault of a word
unfoldable pub own_meaning : List ℕ → Result Instance FileFault
own_meaning bytes = own_at (all_of (words_of bytes))
