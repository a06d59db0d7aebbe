use Rattle.std.proofs.Common.{◌≡◌, ℕ, true, length, Option, sym, ap, subst, ◌∙◌, arith}
use Rattle.std.specs.Prelude.{IfSome, IsSome, option_map, slice_get}
use Rattle.wasm_ast.specs.TypingModule.{functions_of}
use Rattle.instance.specs.Links.{is_built}
use Rattle.instance.specs.Program.{Program}
use Rattle.instance.proofs.LinkLemmas.{all_built, all_link, as_many, each_built, got_some}
use Rattle.instance.proofs.TypeLemmas.{import_types}
use Rattle.instance.specs.Calls.{call_numbered, type_of_call}
use Rattle.wasm_ast.specs.Table.{function_type}
use Rattle.instance.proofs.program.Program.call_of.Goals as goal

pub returns-clause-known : goal.returns-clause-known
returns-clause-known c = λ h.
    let m = c.self.inside.valid in
    let count : length (functions_of c.args.self.now.module.imports) ≡ length c.self.inside.calls.items =
    ap (λ (p : Program). length (functions_of p.module.imports)) (sym c.self.view_is) ∙ sym (as_many m m.imports (all_link m c.self.invariant.0.linked)) ∙ ap length (sym c.self.invariant.0.its_calls) in
    let is : c.number_at.result ≡ slice_get c.self.inside.calls.items c.args.import = c.number_at.ensures ∙ ap (λ xs. slice_get xs c.args.import) c.as_slice.ensures.value in
    subst (λ (o : Option ℕ). IsSome o) (sym is) (got_some c.self.inside.calls.items c.args.import (omega (arith, count, h)))

pub returns-clause-built : goal.returns-clause-built
returns-clause-built c =
    let is : c.number_at.result ≡ slice_get c.self.inside.calls.items c.args.import = c.number_at.ensures ∙ ap (λ xs. slice_get xs c.args.import) c.as_slice.ensures.value in
    subst (λ (o : Option ℕ). IfSome o (λ call. is_built call ≡ true)) (sym is) (each_built c.self.inside.calls.items c.args.import (all_built c.self.inside.valid c.self.inside.calls.items c.self.invariant.0.answered))

pub returns-clause-its_type : goal.returns-clause-its_type
returns-clause-its_type c =
    let m = c.self.inside.valid in
    let calls = c.self.inside.calls.items in
    let is : c.number_at.result ≡ slice_get calls c.args.import = c.number_at.ensures ∙ ap (λ xs. slice_get xs c.args.import) c.as_slice.ensures.value in
    let built = all_built m calls c.self.invariant.0.answered in
    let types = import_types m calls c.args.import (all_link m c.self.invariant.0.linked) c.self.invariant.0.its_calls c.number_at.result (sym is) (subst (λ (o : Option ℕ). IfSome o (λ call. is_built call ≡ true)) (sym is) (each_built calls c.args.import built)) in
    subst (λ (p : Program). IfSome c.number_at.result (λ call. function_type p.module c.args.import ≡ option_map type_of_call (call_numbered call))) c.self.view_is types
