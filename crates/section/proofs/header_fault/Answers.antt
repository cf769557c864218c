-- `section::header_fault` meets its contract. Assumes nothing.
use mathlib.Core.Path.{refl}
use Rattle.fields.specs.Walk.{held}
use Rattle.section.specs.Names.{method, scheme, authority, path, host, name_at}
use Rattle.section.specs.Facts.{facts_of}
use Rattle.section.specs.Places.{bytes_at}
use Rattle.section.specs.Judging.{lies, header_lowest}
use Rattle.section.proofs.header_fault.Goals as goal

pub value_of-requires : goal.value_of-requires
unfolding facts_of
value_of-requires c = lies _ _ c.requires (λ f. f.method) method refl

pub value_of-requires-2 : goal.value_of-requires-2
unfolding facts_of
value_of-requires-2 c = lies _ _ c.requires (λ f. f.scheme) scheme refl

pub value_of-requires-3 : goal.value_of-requires-3
unfolding facts_of
value_of-requires-3 c = lies _ _ c.requires (λ f. f.path) path refl

pub authority_fault-requires : goal.authority_fault-requires
unfolding facts_of
authority_fault-requires c = (lies _ _ c.requires (λ f. f.authority) authority refl, lies _ _ c.requires (λ f. f.host) host refl)

pub returns : goal.returns
unfolding facts_of
returns c =
    let b = c.args.block.now in
    rw (c.authority_fault.ensures, c.request_fault-n.ensures, c.places_fault.ensures, c.value_of-3.ensures, c.value_of-2.ensures, c.value_of.ensures, c.is_some.ensures, c.requires, bytes_at (name_at method) b, bytes_at (name_at scheme) b, bytes_at (name_at path) b, bytes_at (name_at authority) b, bytes_at (name_at host) b)
    (header_lowest (held b))
