-- Lines that are put together of their words, and a text of its lines.
use Rattle.std.proofs.Common.{◌≡◌, ℕ, Bool, length, List, [], ◌∷◌, ◌++◌, map, flat_map, Option, Result, Ok, Err, refl, sym, ap, ◌∙◌, append_assoc}
use Rattle.std.specs.Prelude.{OnOk, codes, if◌then◌else◌}
use Rattle.std.proofs.lemmas.List.{append-nil}
use Rattle.number_words.specs.Line.{spaced}
use Rattle.number_words.specs.Words.{spaced_lines}
use Rattle.number_words.specs.Cost.{micro_text}
use Rattle.number_words.specs.Number.{digits_text}
use Rattle.location_terms.specs.declared.status.SiteStatus.{SiteStatus}
use Rattle.location_terms.specs.Instance.{Instance, Site}
use Rattle.instance_store.specs.Places.{lanes_from}
use Rattle.instance_text.specs.Behind.{behind, line}
use Rattle.instance_text.specs.OwnText.{amount_or_none, customer_words, site_words, own_head_lines, own_text, is_unsettled, printed_status}

-- what follows where a call succeeded
pub on_ok : {A B : Type 0} {P Q : Type 0} (r : Result A B) → (P → Q) → OnOk r P → OnOk r Q
on_ok (Ok x) f p = f p
on_ok (Err e) f p = tt

-- a line is its first word and the others behind it
pub spaced_behind : (w : List ℕ) (ws : List (List ℕ)) → spaced (w ∷ ws) ≡ w ++ behind ws
spaced_behind w [] = sym (append-nil w)
spaced_behind w (v ∷ vs) = ap (λ (text : List ℕ). w ++ (32 ∷ text)) (spaced_behind v vs)

pub behind_both : (us vs : List (List ℕ)) → behind (us ++ vs) ≡ behind us ++ behind vs
behind_both [] vs = refl
behind_both (u ∷ us) vs = ap (λ (text : List ℕ). (32 ∷ u) ++ text) (behind_both us vs) ∙ sym (append_assoc (32 ∷ u) (behind us) (behind vs))

behind_amounts : (lanes : List (Option ℕ)) → behind (map amount_or_none lanes) ≡ flat_map (λ x. 32 ∷ amount_or_none x) lanes
behind_amounts [] = refl
behind_amounts (x ∷ xs) = ap (λ (text : List ℕ). (32 ∷ amount_or_none x) ++ text) (behind_amounts xs)

regrouped : (old w i f c s l e : List ℕ) → (((((old ++ (w ++ i)) ++ f) ++ c) ++ s) ++ l) ++ e ≡ old ++ ((w ++ (i ++ (f ++ (c ++ (s ++ l))))) ++ e)
regrouped old w i f c s l e = simp append_assoc

-- the line of a site, piece by piece
pub site_pieces : (old w id fixed limit : List ℕ) (status : List (List ℕ)) (lanes : List (Option ℕ))
    → (((((old ++ (w ++ (32 ∷ id))) ++ (32 ∷ fixed)) ++ (32 ∷ limit)) ++ behind status) ++ flat_map (λ x. 32 ∷ amount_or_none x) lanes) ++ 10 ∷ [] ≡ old ++ line (w ∷ id ∷ fixed ∷ limit ∷ (status ++ map amount_or_none lanes))
site_pieces old w id fixed limit status lanes =
    let rest : behind (status ++ map amount_or_none lanes) ≡ behind status ++ flat_map (λ x. 32 ∷ amount_or_none x) lanes = behind_both status (map amount_or_none lanes) ∙ ap (λ (text : List ℕ). behind status ++ text) (behind_amounts lanes) in
    let words : w ++ ((32 ∷ id) ++ ((32 ∷ fixed) ++ ((32 ∷ limit) ++ (behind status ++ flat_map (λ x. 32 ∷ amount_or_none x) lanes)))) ≡ spaced (w ∷ id ∷ fixed ∷ limit ∷ (status ++ map amount_or_none lanes)) =
    ap (λ (text : List ℕ). w ++ ((32 ∷ id) ++ ((32 ∷ fixed) ++ ((32 ∷ limit) ++ text)))) (sym rest) ∙ sym (spaced_behind w (id ∷ fixed ∷ limit ∷ (status ++ map amount_or_none lanes))) in
    regrouped old w (32 ∷ id) (32 ∷ fixed) (32 ∷ limit) (behind status) (flat_map (λ x. 32 ∷ amount_or_none x) lanes) (10 ∷ []) ∙ ap (λ (text : List ℕ). old ++ (text ++ 10 ∷ [])) words

-- the lines of a head
pub head_pieces : (old : List ℕ) (a b c d : List (List ℕ)) → (((old ++ line a) ++ line b) ++ line c) ++ line d ≡ old ++ spaced_lines (a ∷ b ∷ c ∷ d ∷ [])
head_pieces old a b c d = simp append_assoc

lines_both : (front rest : List (List (List ℕ))) → spaced_lines (front ++ rest) ≡ spaced_lines front ++ spaced_lines rest
lines_both [] rest = refl
lines_both (a ∷ front) rest = ap (λ (text : List ℕ). line a ++ text) (lines_both front rest) ∙ sym (append_assoc (line a) (spaced_lines front) (spaced_lines rest))

lines_of : {X : Type 0} (words : X → List (List ℕ)) (xs : List X) → spaced_lines (map words xs) ≡ flat_map (λ x. line (words x)) xs
lines_of words [] = refl
lines_of words (x ∷ xs) = ap (λ (text : List ℕ). line (words x) ++ text) (lines_of words xs)

-- the whole text
pub text_pieces : (I : Instance) → ((spaced_lines (own_head_lines I) ++ flat_map (λ c. line (customer_words c)) I.customers) ++ flat_map (λ x. line (site_words I x)) I.sites) ++ codes "end\n" ≡ own_text I
text_pieces I =
    let ends : List (List (List ℕ)) = (codes "end" ∷ []) ∷ [] in
    let sites : spaced_lines (map (site_words I) I.sites ++ ends) ≡ flat_map (λ x. line (site_words I x)) I.sites ++ codes "end\n" = lines_both (map (site_words I) I.sites) ends ∙ ap (λ (text : List ℕ). text ++ codes "end\n") (lines_of (site_words I) I.sites) in
    let customers : spaced_lines (map customer_words I.customers ++ (map (site_words I) I.sites ++ ends)) ≡ flat_map (λ c. line (customer_words c)) I.customers ++ (flat_map (λ x. line (site_words I x)) I.sites ++ codes "end\n") =
    lines_both (map customer_words I.customers) (map (site_words I) I.sites ++ ends) ∙ ap (λ (text : List ℕ). text ++ spaced_lines (map (site_words I) I.sites ++ ends)) (lines_of customer_words I.customers) ∙ ap (λ (text : List ℕ). flat_map (λ c. line (customer_words c)) I.customers ++ text) sites in
    let whole : own_text I ≡ spaced_lines (own_head_lines I) ++ (flat_map (λ c. line (customer_words c)) I.customers ++ (flat_map (λ x. line (site_words I x)) I.sites ++ codes "end\n")) =
    lines_both (own_head_lines I) (map customer_words I.customers ++ (map (site_words I) I.sites ++ ends)) ∙ ap (λ (text : List ℕ). spaced_lines (own_head_lines I) ++ text) customers in
    append_assoc (spaced_lines (own_head_lines I) ++ flat_map (λ c. line (customer_words c)) I.customers) (flat_map (λ x. line (site_words I x)) I.sites) (codes "end\n")
    ∙ append_assoc (spaced_lines (own_head_lines I)) (flat_map (λ c. line (customer_words c)) I.customers) (flat_map (λ x. line (site_words I x)) I.sites ++ codes "end\n")
    ∙ sym whole

-- a head whose lines were put behind a text one by one
pub head_is : (I : Instance) (old t1 t2 t3 t4 : List ℕ) (free : Bool) (m n : ℕ) (next count : ℕ × ℕ) → free ≡ is_unsettled I → m ≡ length I.sites → n ≡ length I.customers → next ≡ (I.next_site, I.next_customer) → count ≡ (I.lo, I.hi)
    → t1 ≡ old ++ line (codes "dualoc-instance" ∷ (if free then codes "1" else codes "2") ∷ []) → t2 ≡ t1 ++ line (codes "sites" ∷ digits_text m ∷ codes "next" ∷ digits_text next.0 ∷ []) → t3 ≡ t2 ++ line (codes "customers" ∷ digits_text n ∷ codes "next" ∷ digits_text next.1 ∷ [])
    → t4 ≡ t3 ++ line (codes "count" ∷ digits_text count.0 ∷ digits_text count.1 ∷ []) → t4 ≡ old ++ spaced_lines (own_head_lines I)
head_is I old t1 t2 t3 t4 free m n next count unsettled sites customers ids range e1 e2 e3 e4 =
    let a : List (List ℕ) = codes "dualoc-instance" ∷ (if free then codes "1" else codes "2") ∷ [] in
    let b : List (List ℕ) = codes "sites" ∷ digits_text m ∷ codes "next" ∷ digits_text next.0 ∷ [] in
    let c : List (List ℕ) = codes "customers" ∷ digits_text n ∷ codes "next" ∷ digits_text next.1 ∷ [] in
    let d : List (List ℕ) = codes "count" ∷ digits_text count.0 ∷ digits_text count.1 ∷ [] in
    let same : a ∷ b ∷ c ∷ d ∷ [] ≡ own_head_lines I = rw (unsettled, sites, customers, ids, range) refl in
    e4
    ∙ ap (λ (text : List ℕ). text ++ line d) (e3 ∙ ap (λ (text : List ℕ). text ++ line c) (e2 ∙ ap (λ (text : List ℕ). text ++ line b) e1))
    ∙ head_pieces old a b c d
    ∙ ap (λ (lines : List (List (List ℕ))). old ++ spaced_lines lines) same

-- a site whose words were put behind a text one by one
pub site_is : (I : Instance) (x : Site) (old t1 t2 t3 t4 t5 t6 : List ℕ) (free : Bool) (id fixed : ℕ) (limit : Option ℕ) (status : SiteStatus) (lanes : List (Option ℕ)) → free ≡ is_unsettled I → id ≡ x.id → fixed ≡ x.fixed → limit ≡ x.cap → status ≡ x.status → lanes ≡ lanes_from I x
    → t1 ≡ old ++ (codes "site" ++ (32 ∷ digits_text id)) → t2 ≡ t1 ++ (32 ∷ micro_text fixed) → t3 ≡ t2 ++ (32 ∷ amount_or_none limit) → t4 ≡ t3 ++ behind (if free then [] else printed_status status ∷ []) → t5 ≡ t4 ++ flat_map (λ o. 32 ∷ amount_or_none o) lanes
    → t6 ≡ t5 ++ 10 ∷ [] → t6 ≡ old ++ line (site_words I x)
site_is I x old t1 t2 t3 t4 t5 t6 free id fixed limit status lanes unsettled named opening most settled row e1 e2 e3 e4 e5 e6 =
    let words : List (List ℕ) = if free then [] else printed_status status ∷ [] in
    let same : codes "site" ∷ digits_text id ∷ micro_text fixed ∷ amount_or_none limit ∷ (words ++ map amount_or_none lanes) ≡ site_words I x = rw (unsettled, named, opening, most, settled, row) refl in
    let front : t2 ≡ (old ++ (codes "site" ++ (32 ∷ digits_text id))) ++ (32 ∷ micro_text fixed) = e2 ∙ ap (λ (text : List ℕ). text ++ (32 ∷ micro_text fixed)) e1 in
    let more : t4 ≡ (t2 ++ (32 ∷ amount_or_none limit)) ++ behind words = e4 ∙ ap (λ (text : List ℕ). text ++ behind words) e3 in
    e6
    ∙ ap (λ (text : List ℕ). text ++ 10 ∷ []) e5
    ∙ ap (λ (text : List ℕ). (text ++ flat_map (λ o. 32 ∷ amount_or_none o) lanes) ++ 10 ∷ []) (more ∙ ap (λ (text : List ℕ). (text ++ (32 ∷ amount_or_none limit)) ++ behind words) front)
    ∙ site_pieces old (codes "site") (digits_text id) (micro_text fixed) (amount_or_none limit) words lanes
    ∙ ap (λ (ws : List (List ℕ)). old ++ line ws) same
