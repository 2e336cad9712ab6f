-- The one text of an instance in the suite's own form: version 1 where every site is free, and else version 2.
use Rattle.std.specs.Prelude.{ℕ, Bool, ◌&&◌, not, List, [], ◌∷◌, ◌++◌, map, length, Option, None, Some, codes, if◌then◌else◌}
use Rattle.std.specs.List.{list_all}
use Rattle.location_terms.specs.declared.status.SiteStatus.{SiteStatus}
use Rattle.location_terms.specs.declared.status.SiteStatus.TheVariants.{Free, MustOpen, MustClose}
use Rattle.location_terms.specs.Instance.{Instance, Site, Customer}
use Rattle.location_terms.specs.Box.{must_open, must_close}
use Rattle.number_words.specs.Cost.{micro_text}
use Rattle.number_words.specs.Number.{digits_text}
use Rattle.number_words.specs.Words.{spaced_lines}
use Rattle.instance_store.specs.Places.{lanes_from}

-- no site must be open or closed
abbrev pub is_unsettled : Instance → Bool
is_unsettled I = list_all (λ x. not (must_open x.status) && not (must_close x.status)) I.sites

-- an amount in units, or the word `none`
abbrev pub amount_or_none : Option ℕ → List ℕ
amount_or_none None = codes "none"
amount_or_none (Some amount) = micro_text amount

abbrev pub printed_status : SiteStatus → List ℕ
printed_status Free = codes "free"
printed_status MustOpen = codes "open"
printed_status MustClose = codes "closed"

-- the word of a site's status, which version 1 leaves out
abbrev pub printed_statuses : Instance → Site → List (List ℕ)
printed_statuses I x = if is_unsettled I then [] else printed_status x.status ∷ []

abbrev pub customer_words : Customer → List (List ℕ)
customer_words c = codes "customer" ∷ digits_text c.id ∷ micro_text c.demand ∷ []

-- a site with its lanes, in the order of the customers
abbrev pub site_words : Instance → Site → List (List ℕ)
site_words I x = codes "site" ∷ digits_text x.id ∷ micro_text x.fixed ∷ amount_or_none x.cap ∷ (printed_statuses I x ++ map amount_or_none (lanes_from I x))

-- the words of the lines of the head
abbrev pub own_head_lines : Instance → List (List (List ℕ))
own_head_lines I =
    (codes "dualoc-instance" ∷ (if is_unsettled I then codes "1" else codes "2") ∷ [])
    ∷ (codes "sites" ∷ digits_text (length I.sites) ∷ codes "next" ∷ digits_text I.next_site ∷ [])
    ∷ (codes "customers" ∷ digits_text (length I.customers) ∷ codes "next" ∷ digits_text I.next_customer ∷ [])
    ∷ (codes "count" ∷ digits_text I.lo ∷ digits_text I.hi ∷ []) ∷ []

-- the words of each line
abbrev pub own_lines : Instance → List (List (List ℕ))
own_lines I = own_head_lines I ++ (map customer_words I.customers ++ (map (site_words I) I.sites ++ (codes "end" ∷ []) ∷ []))

abbrev pub own_text : Instance → List ℕ
own_text I = spaced_lines (own_lines I)
