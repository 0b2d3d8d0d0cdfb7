-- `compact` meets its contract.
use Rattle.std.proofs.Common.{◌≡◌, ap, ◌∙◌, List, ℕ, ◌<◌, ◌≤◌, true, false, arith}
use Rattle.std.specs.Prelude.{not}
use Rattle.ledger.specs.Checks.{max_formulas}
use Rattle.store_cells.specs.Layout.{max_rows, row_count, gap_at}
use Rattle.store_cells.proofs.CredentialRows.{row_there}
use Rattle.store.specs.Store.{Good}
use Rattle.store_credentials.specs.Unlinked.{Unlinked}
use Rattle.store_credentials.proofs.Gather.{gather_start, gather_gap, gather_move, gather_hint}
use Rattle.store_credentials.proofs.Gather.{gather_from, gather_named, compact_done}
use Rattle.store_credentials.proofs.compact.Goals as goal
use Rattle.store_credentials.proofs.compact.Goals.{then-stays, else-stays}

-- the rows in use are those of the store at the start
record Used (l : List ℕ) (n : ℕ) : Type 0 where
  same : n ≡ row_count l
  few : n ≤ max_rows

used : {l u : List ℕ} {n : ℕ} → Good l → Unlinked l u → n ≡ row_count u → Used l n
used g w e =
    let same = e ∙ w.rest 3 (omega arith) in
    record { same = same; few = omega (arith, same, g.ordered.few) }

pub loop-from-init : goal.loop-from-init
loop-from-init c = gather_start c.unlink.ensures

pub kind_at-requires : goal.kind_at-requires
kind_at-requires c = let u = used c.requires c.unlink.ensures c.read-used.ensures in omega (arith, u.few)

pub credential-c-requires : goal.credential-c-requires
credential-c-requires c = let u = used c.requires c.unlink.ensures c.read-used.ensures in omega (arith, u.few)

-- the formula of a row is one of the ledger's
pub put_credential-requires : goal.put_credential-requires
put_credential-requires c =
    let u = used c.requires c.unlink.ensures c.read-used.ensures in (
      omega (arith, u.few, c.loop-from.invariant.low),
      gather_named _ _ _ _ (gather_from c.unlink.ensures (omega (arith, u.few)) c.loop-from.invariant)
          c.requires (omega (arith, u.same)) _ c.credential-c.ensures,
    )

pub loop-from-preserved : goal.loop-from-preserved
loop-from-preserved c =
    let u = used c.requires c.unlink.ensures c.read-used.ensures in
    let v = c.loop-from.invariant in
    let few : c.loop-from.from < max_rows = omega (arith, u.few) in
    elim c.if-stays.branch [
      | then-stays w ↦
          let e : gap_at c.loop-from.store c.loop-from.from ≡ false =
          row_there _ _ c.kind_at.ensures c.is_some-stays.ensures ∙ ap not w.if-stays.true in
          let low = v.low in
          let named : w.credential-c.result.formula < max_formulas =
          gather_named _ _ _ _ (gather_from c.unlink.ensures (omega arith) v) c.requires (omega (arith, u.same)) _
          w.credential-c.ensures in
          rw (w.store-is, w.k-is, w.put_hint.ensures, w.put_credential.ensures)
          (gather_hint _ _ _ _ (gather_move _ _ _ _ v _ few e w.credential-c.ensures named) (omega arith) _ _)
      | else-stays w ↦
          let e : gap_at c.loop-from.store c.loop-from.from ≡ true =
          row_there _ _ c.kind_at.ensures c.is_some-stays.ensures ∙ ap not w.if-stays.false in
          rw (w.store-is, w.k-is) (gather_gap _ _ _ _ v few e)
    ]

pub returns : goal.returns
returns c =
    let u = used c.requires c.unlink.ensures c.read-used.ensures in
    compact_done _ c.requires (omega (arith, u.same))
    (gather_from c.unlink.ensures (omega (arith, u.few)) c.loop-from.invariant) c.put.ensures
