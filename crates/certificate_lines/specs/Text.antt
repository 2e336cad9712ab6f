-- The text of a certificate, version 1 where every site of the instance is free and version 2 where one is not. A certificate has one text.
use Rattle.std.specs.Prelude.{ℕ, zero, suc, Bool, true, false, List, [], ◌∷◌, ◌++◌, length, map, filter, flat_map, codes, Option, None, Some, pos, if◌then◌else◌}
use Rattle.std.specs.List.{list_all}
use Rattle.location_terms.specs.declared.status.SiteStatus.{SiteStatus}
use Rattle.location_terms.specs.declared.status.SiteStatus.TheVariants.{Free, MustOpen, MustClose}
use Rattle.location_terms.specs.declared.claim.Claim.{Claim}
use Rattle.location_terms.specs.declared.claim.Claim.TheVariants.{Optimal, Infeasible, Bracket}
use Rattle.location_terms.specs.declared.form.LeafForm.{LeafForm}
use Rattle.location_terms.specs.declared.form.LeafForm.TheVariants.{Prices, Whole}
use Rattle.location_terms.specs.declared.split.Split.{Split}
use Rattle.location_terms.specs.declared.split.Split.TheVariants.{Site, Lane}
use Rattle.location_terms.specs.Instance.{Instance}
use Rattle.location_terms.specs.Plan.{Plan}
use Rattle.location_terms.specs.Box.{must_open, must_close}
use Rattle.location_terms.specs.Bound.{Duals}
use Rattle.location_terms.specs.Tree.{Node, Leaf, Fork}
use Rattle.location_terms.specs.Certificate.{Certificate}
use Rattle.number_words.specs.Cost.{micro_text}
use Rattle.number_words.specs.Line.{spaced}
use Rattle.number_words.specs.Number.{number_text}

-- a word, and then whole numbers that are not below 0
abbrev pub counts_line : List ℕ → List ℕ → List ℕ
counts_line word ns = spaced (word ∷ map (λ n. number_text (pos n)) ns)

-- nothing is settled of the site
abbrev pub has_no_status : SiteStatus → Bool
has_no_status Free = true
has_no_status MustOpen = false
has_no_status MustClose = false

-- whether a site's status is this one
abbrev pub is_status : SiteStatus → SiteStatus → Bool
is_status Free = has_no_status
is_status MustOpen = must_open
is_status MustClose = must_close

-- no site must be open or closed
abbrev pub is_all_free : Instance → Bool
is_all_free I = list_all (λ s. has_no_status s.status) I.sites

-- the ids of the sites whose status passes a test
abbrev pub ids_where : (SiteStatus → Bool) → Instance → List ℕ
ids_where test I = map (λ s. s.id) (filter (λ s. test s.status) I.sites)

-- the words of the first line
abbrev pub header_words : Instance → List (List ℕ)
header_words I = codes "dualoc-certificate" ∷ (if is_all_free I then codes "1" else codes "2") ∷ []

abbrev pub sizes_line : Instance → List ℕ
sizes_line I = spaced (codes "sites" ∷ number_text (pos (length I.sites)) ∷ codes "customers" ∷ number_text (pos (length I.customers)) ∷ [])

-- the lines of statuses, which stand only where some site must be open or closed
abbrev pub status_lines : Instance → List (List ℕ)
status_lines I = if is_all_free I then [] else counts_line (codes "must-open") (ids_where must_open I) ∷ counts_line (codes "must-closed") (ids_where must_close I) ∷ []

abbrev pub claim_words : Claim → List (List ℕ)
claim_words (Optimal cost) = codes "optimal" ∷ micro_text cost ∷ []
claim_words Infeasible = codes "infeasible" ∷ []
claim_words (Bracket low None) = codes "bracket" ∷ micro_text low ∷ codes "none" ∷ []
claim_words (Bracket low (Some high)) = codes "bracket" ∷ micro_text low ∷ micro_text high ∷ []

abbrev pub claim_line : Claim → List ℕ
claim_line claim = spaced (codes "claim" ∷ claim_words claim)

-- the open sites, and the site of each customer in the order of the customers
abbrev pub plan_lines : Option Plan → List (List ℕ)
plan_lines None = []
plan_lines (Some P) = counts_line (codes "open") P.sites ∷ counts_line (codes "serve") (map (λ v. v.1) P.serves) ∷ []

-- the ids of the sites whose price is not 0, each with its price
abbrev pub priced : List ℕ → List ℕ → List ℕ
priced [] prices = []
priced (s ∷ sites) [] = []
priced (s ∷ sites) (zero ∷ prices) = priced sites prices
priced (s ∷ sites) (suc n ∷ prices) = s ∷ suc n ∷ priced sites prices

-- the prices of the capacities, or the word `whole` alone
abbrev pub third_line : LeafForm → List ℕ → Duals → List ℕ
third_line Prices sites d = counts_line (codes "u") (priced sites d.u)
third_line Whole sites d = codes "whole"

-- the scale and the price on the number of sites, the duals of the customers, and a third line by the form
abbrev pub leaf_lines : List ℕ → Duals → List (List ℕ)
leaf_lines sites d = spaced (codes "leaf" ∷ number_text (pos d.q) ∷ number_text d.nu ∷ []) ∷ spaced (codes "v" ∷ map number_text d.v) ∷ third_line d.form sites d ∷ []

-- the site, or the site and the customer of the lane
abbrev pub split_line : Split → List ℕ
split_line (Site s) = counts_line (codes "site") (s ∷ [])
split_line (Lane s c) = counts_line (codes "lane") (s ∷ c ∷ [])

-- the nodes in preorder
abbrev pub node_lines : List ℕ → Node → List (List ℕ)
node_lines sites (Leaf d) = leaf_lines sites d
node_lines sites (Fork split first second) = split_line split ∷ (node_lines sites first ++ node_lines sites second)

abbrev pub certificate_lines : Instance → Certificate → List (List ℕ)
certificate_lines I cert = spaced (header_words I) ∷ sizes_line I ∷ (status_lines I ++ (claim_line cert.claim ∷ (plan_lines cert.plan ++ (node_lines cert.tree.sites cert.tree.root ++ codes "end" ∷ []))))

-- each line ends with a line feed
abbrev pub text_of_lines : List (List ℕ) → List ℕ
text_of_lines lines = flat_map (λ line. line ++ 10 ∷ []) lines

abbrev pub certificate_text : Instance → Certificate → List ℕ
certificate_text I cert = text_of_lines (certificate_lines I cert)
