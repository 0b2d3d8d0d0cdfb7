-- `put_credential` meets its contract: two stores are the links; three stores and an interval are the row.
use mathlib.Core.Path.{◌≡◌, refl}
use native.Mathlib.Numerals.{towards_suc}
use denote.Enum.Declared.{tag_of}
use Rattle.request.specs.contracts.Kind.{the_type}
use Rattle.request.specs.declared.Kind.{Kind}
use Rattle.request.specs.declared.Kind.TheVariants.{Linear, Unrestricted}
use Rattle.store_cells.specs.Layout.{kind_number, put_row, put_credential}
use Rattle.store_cells.proofs.credentials.put_credential.Goals as goal

-- what `as u32` makes of a kind
cast : (k : Kind) → tag_of the_type k ≡ kind_number k
cast Linear = refl
cast Unrestricted = refl

pub returns : goal.returns
unfolding put_credential put_row
returns c =
    rw (
      c.put.ensures,
      cast c.args.c.kind,
      c.put_link-2.ensures,
      c.put_link.ensures,
      c.link-last.ensures,
      c.formula_link-chain.ensures,
    )
    (simp towards_suc)
