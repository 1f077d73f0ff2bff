use Rattle.std.proofs.Common.{◌≡◌, None, sym, ap, ◌∙◌, ◌++◌, ◌∷◌, []}
use Rattle.std.specs.Prelude.{bytes_eq}
use Rattle.indexmap.specs.IndexMap.{insert_entry}
use Rattle.cm_language.specs.Names.{named, field_named}
use Rattle.cm_asm.proofs.Named.{fields_of, defined, of_ok}
use Rattle.cm_asm.proofs.fields.Fields.define.Goals as goal

pub returns-clause-ok : goal.returns-clause-ok
returns-clause-ok c =
    let old = c.self.inside.by_name.entries in
    let key = c.in_ok-owned.owned in
    let absent : field_named (fields_of old) key.items ≡ None =
    rw (c.in_ok-owned.ensures.items, c.self.view_is) c.requires in
    let entries : c.insert.new.self.entries ≡ insert_entry (λ x y. bytes_eq x.items y.items) old key c.args.field =
    of_ok c.insert.result (c.insert.new.self.entries
    ≡ insert_entry (λ x y. bytes_eq x.items y.items) old key c.args.field) c.insert.ensures.entries
    (sym c.is_err.ensures.value ∙ c.if-is_err.false) in
    ap fields_of entries ∙ defined old key c.args.field absent
    ∙ (λ i. c.self.view_is i ++ named (c.in_ok-owned.ensures.items i) c.args.field ∷ [])
