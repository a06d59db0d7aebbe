use Rattle.std.proofs.Common.{◌≡◌, ◌||◌, false, refl}
use Rattle.std.specs.List.{list_any}
use Rattle.std.proofs.lemmas.Result.{IfOk-weaker}
use Rattle.wasm_ast.specs.declared.module.{GlobalVar.GlobalVar, Element.Element, Segment.Segment, Code.Code}
use Rattle.wasm_decode.specs.declared.search.Found.{Found}
use Rattle.wasm_decode.specs.Bodies.{any_body}
use Rattle.wasm_decode.specs.Bounds.{is_deep}
use Rattle.wasm_decode.proofs.SearchLemmas.{found_behind}
use Rattle.wasm_decode.proofs.search.search.Goals as goal

pub returns-clause-deep : goal.returns-clause-deep
returns-clause-deep c =
    let m = c.args.module.now in
    let globals = found_behind (λ (g : GlobalVar). is_deep g.init) c.as_slice.result.now m.globals c.in_ok-found.found.deep false false c.in_ok-found.ensures.deep refl c.as_slice.ensures in
    let elements = found_behind (λ (e : Element). is_deep e.offset) c.as_slice-2.result.now m.elements c.in_ok-found-2.found.deep c.in_ok-found.found.deep _ c.in_ok-found-2.ensures.deep globals c.as_slice-2.ensures in
    let codes = found_behind (λ (o : Code). is_deep o.body) c.as_slice-3.result.now m.codes c.in_ok-found-3.found.deep c.in_ok-found-2.found.deep _ c.in_ok-found-3.ensures.deep elements c.as_slice-3.ensures in
    IfOk-weaker c.search_each-4.result (λ (f : Found). f.deep ≡ (c.in_ok-found-3.found.deep || list_any (λ (s : Segment). is_deep s.offset) c.as_slice-4.result.now)) (λ (f : Found). f.deep ≡ any_body is_deep m) (λ f p. found_behind (λ (s : Segment). is_deep s.offset) c.as_slice-4.result.now m.segments f.deep c.in_ok-found-3.found.deep _ p codes c.as_slice-4.ensures) c.search_each-4.ensures.deep
