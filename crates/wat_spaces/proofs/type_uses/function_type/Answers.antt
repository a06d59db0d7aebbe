use Rattle.std.proofs.Common.{◌≡◌, List, [], ◌∷◌, ◌∙◌, map, ap, refl}
use Rattle.wat_syntax.specs.declared.parsed.Variable.{Variable}
use Rattle.wat_syntax.specs.Parsed as said
use Rattle.wat_syntax.specs.Seen.{seen_variables}
use Rattle.wat_spaces.proofs.type_uses.function_type.Goals as goal

types_seen : (vs : List Variable) → map (λ (v : Variable). v.of) vs ≡ map (λ (v : said.Variable). v.of) (seen_variables vs)
types_seen [] = refl
types_seen (v ∷ vs) = ap (λ ts. v.of ∷ ts) (types_seen vs)

pub returns : goal.returns
returns c = λ i. record {
  params = (c.from_vec.ensures ∙ c.in_ok-params.ensures ∙ ap (map (λ (v : Variable). v.of)) c.as_slice.ensures.value ∙ types_seen c.args.of.now.params.items) i;
  results = (c.from_vec-2.ensures ∙ c.in_ok-results.ensures) i;
}
