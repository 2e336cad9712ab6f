-- Parts without capacities and with all lanes make a plain instance.
use Rattle.std.proofs.Common.{◌≡◌, ℕ, ◌<◌, ◌≤◌, List, [], map, length, All, None, IsSome, slice_index, slice_index_or, get_or, refl, sym, ap, subst, ◌∙◌, arith}
use Rattle.std.specs.FinMap.{get}
use Rattle.std.proofs.lemmas.List.{length-map, get_or-map}
use Rattle.std.proofs.lemmas.List.Elements.{All-map}
use Rattle.location_terms.specs.declared.status.SiteStatus.TheVariants.{Free}
use Rattle.location_terms.specs.Instance.{lanes_of, lane}
use Rattle.location_terms.specs.Plain.{IsPlain, IsOpenToAll}
use Rattle.location_terms.proofs.Table.{IsTable, get-lanes_of}
use Rattle.instance_store.specs.declared.rows.CustRow.{CustRow}
use Rattle.instance_store.specs.declared.rows.SiteRow.{SiteRow}
use Rattle.instance_store.specs.Parts.{site_of, customer_of, site_row_ids, cust_row_ids, instance_of, AreParts}

module _ (lo hi next_site next_cust : ℕ) (custs : List CustRow) (rows : List SiteRow) (parts : AreParts lo hi next_site next_cust custs rows) where
  -- rows that make an instance are a table
  table-parts : IsTable (site_row_ids rows) (cust_row_ids custs) (map (λ s. s.lanes) rows)
  table-parts = record {
    sites_rise = parts.sites_named.rising;
    customers_rise = parts.customers_named.rising;
    row_each = length-map rows (λ s. s.lanes) ∙ sym (length-map rows (λ s. s.id));
    entry_each = All-map (λ row. length row ≡ length (cust_row_ids custs)) (λ (s : SiteRow). s.lanes) rows (λ k d below. parts.rows_full k d below ∙ sym (length-map custs (λ c. c.id)));
  }

  -- what the lanes have at the ids of two rows
  at_rows : (i j : ℕ) (d : SiteRow) (e : CustRow) → i < length rows → j < length custs
      → get (lanes_of (site_row_ids rows) (cust_row_ids custs) (map (λ s. s.lanes) rows)) ((get_or rows i d).id, (get_or custs j e).id) ≡ slice_index_or (get_or rows i d).lanes j None
  at_rows i j d e below inside =
      let lanes = lanes_of (site_row_ids rows) (cust_row_ids custs) (map (λ s. s.lanes) rows) in
      let site : slice_index (site_row_ids rows) i ≡ (get_or rows i d).id = get_or-map (λ s. s.id) rows i d 0 below in
      let cust : slice_index (cust_row_ids custs) j ≡ (get_or custs j e).id = get_or-map (λ c. c.id) custs j e 0 inside in
      let row : slice_index_or (map (λ s. s.lanes) rows) i [] ≡ (get_or rows i d).lanes = get_or-map (λ s. s.lanes) rows i d [] below in
      (λ k. get lanes (sym site k, sym cust k))
      ∙ get-lanes_of (site_row_ids rows) (cust_row_ids custs) (map (λ s. s.lanes) rows) table-parts i j (omega (arith, length-map rows (λ s. s.id))) (omega (arith, length-map custs (λ c. c.id)))
      ∙ ap (λ r. slice_index_or r j None) row

  pub plain-parts : lo ≡ 0 → length rows ≤ hi → All (λ s. s.cap ≡ None) rows → All (λ s. All IsSome s.lanes) rows → IsPlain (instance_of lo hi next_site next_cust custs rows)
  plain-parts none_asked none_barred no_caps there =
      let I = instance_of lo hi next_site next_cust custs rows in
      record {
        sites = All-map (IsOpenToAll I) (site_of Free) rows (λ i d below. record {
          no_cap = no_caps i d below;
          free = refl;
          all_lanes = All-map (λ c. IsSome (lane I (get_or rows i d).id c.id)) customer_of custs
              (λ j e inside. subst IsSome (sym (at_rows i j d e below inside)) (there i d below j None (omega (arith, inside, parts.rows_full i d below))));
        });
        none_asked = none_asked;
        none_barred = omega (arith, length-map rows (site_of Free), none_barred);
      }
