-- From the lines of a text to the whole.
use Rattle.std.proofs.Common.{◌≡◌, ℕ, Bool, List, Result, Ok, Err, IfOk, refl, sym, ap, subst, ◌∙◌}
use Rattle.std.specs.Prelude.{IfErr, codes}
use Rattle.location_terms.specs.declared.status.SiteStatus.{SiteStatus}
use Rattle.location_terms.specs.Instance.{Instance}
use Rattle.fixed_cost.specs.declared.fault.FileFault.{FileFault}
use Rattle.fixed_cost.specs.declared.fault.FormFault.{FormFault}
use Rattle.fixed_cost.specs.declared.fault.FormFault.TheVariants.{NoMemory}
use Rattle.fixed_cost.specs.Reading.{Rest, is_within, many_from, finished, FailsAs, Means}
use Rattle.fixed_cost.proofs.ReadFacts.{finished-err, finished-ok}
use Rattle.instance_store.specs.declared.rows.SiteRow.{SiteRow}
use Rattle.instance_store.specs.declared.rows.CustRow.{CustRow}
use Rattle.location_terms.specs.declared.limits.TheConstants.{MAX_SITES}
use Rattle.table_words.specs.Tables.{is_customer_count}
use Rattle.instance_text.specs.Own.{fixed_at, version_at, size_line_at, count_line_at, customer_line_at, site_line_at, own_instance, body_at, own_at}

module _ (statuses : Bool) (m n count : ℕ × ℕ) (r : Rest) (custs : List CustRow) (behind_custs : Rest) (sites : List (SiteRow × SiteStatus)) (behind_sites : Rest)
    (custs_read : many_from (λ _ c. c.id) (customer_line_at n.1) 0 n.0 r ≡ Ok (custs, behind_custs)) (sites_read : many_from (λ _ s. s.0.id) (site_line_at statuses n.0 m.1) 0 m.0 behind_custs ≡ Ok (sites, behind_sites)) where
  -- the word behind the last line isn't `end`
  pub no_end : (f : FileFault) → fixed_at (codes "end") behind_sites ≡ Err f → body_at statuses m n count r ≡ Err f
  unfolding body_at
  no_end f e = rw (custs_read, sites_read, e) refl

  module _ (behind : Rest) (ends : fixed_at (codes "end") behind_sites ≡ Ok behind) where
    to_end : body_at statuses m n count r ≡ finished (own_instance count m.1 n.1 custs sites) behind
    unfolding body_at
    to_end = rw (custs_read, sites_read, ends) refl

    -- a word is left
    pub trails : (f : FileFault) → finished {A = Unit {0}} (tt {0}) behind ≡ Err f → body_at statuses m n count r ≡ Err f
    trails f e = to_end ∙ finished-err (tt {0}) (own_instance count m.1 n.1 custs sites) behind f e

    -- no word is left
    pub stored-means : (result : Result Instance FormFault) → finished {A = Unit {0}} (tt {0}) behind ≡ Ok (tt {0}) → IfOk result (λ I. I ≡ own_instance count m.1 n.1 custs sites) → IfErr result (λ e. e ≡ NoMemory) → Means (λ I. I) result (body_at statuses m n count r)
    stored-means (Ok I) e is only = to_end ∙ finished-ok (tt {0}) (tt {0}) (own_instance count m.1 n.1 custs sites) behind e ∙ ap Ok (sym is)
    stored-means (Err fault) e is only = subst (λ f. FailsAs f (body_at statuses m n count r)) (sym only) tt

-- behind the head
pub to_body : (r behind after_version after_sites after_customers after_count : Rest) (statuses : Bool) (m n count : ℕ × ℕ) → fixed_at (codes "dualoc-instance") r ≡ Ok behind → version_at behind ≡ Ok (statuses, after_version) → size_line_at (codes "sites") (is_within 1 MAX_SITES) after_version ≡ Ok (m, after_sites)
    → size_line_at (codes "customers") (is_customer_count m.0) after_sites ≡ Ok (n, after_customers) → count_line_at after_customers ≡ Ok (count, after_count) → own_at r ≡ body_at statuses m n count after_count
unfolding own_at
to_body r behind after_version after_sites after_customers after_count statuses m n count first version sites customers counts = rw (first, version, sites, customers, counts) refl
