use Rattle.std.proofs.Common.{Err, sym, ◌∙◌, ap, subst}
use Rattle.wat_tokens.specs.Tokens.{tokens}
use Rattle.wat_tokens.specs.Reads.{Reads}
use Rattle.wat_asm.specs.Assembled.{fault, assembled, module_of_tokens}
use Rattle.wat_asm.specs.Answers.{Answers}
use Rattle.wat_asm.specs.declared.fault.AsmKind.TheVariants as kind
use Rattle.wat_asm.proofs.assembler.assemble.Goals as goal

pub returns-in-Ok : goal.returns-in-Ok
unfolding assembled
returns-in-Ok c = subst (λ ts. Answers (module_of_tokens ts) c.module_of_tokens.result) (sym c.in-Ok.ensures) c.module_of_tokens.ensures

pub returns-in-Err-Wrong : goal.returns-in-Err-Wrong
unfolding assembled
returns-in-Err-Wrong c =
    ap module_of_tokens (subst (λ f. Reads (tokens c.args.text.now) (Err f)) c.in-Err-Wrong.field-0-is c.in-Err-Wrong.ensures)
    ∙ ap (λ line. Err (fault kind.Token line)) (sym c.in-Err-Wrong.line-is)
