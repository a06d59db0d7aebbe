-- The names that clauses and proofs on validation cite, passed on from one place. Declares nothing.
pub use Rattle.wasm_validate.specs.Algorithm.{Steps, at_else, at_end, begun, behind, fitting, step, with_operands}
pub use Rattle.wasm_validate.specs.Blocks.{Closes, OpenBlocks, ended, first_block, labels_of, opened, outer_labels, popped_to}
pub use Rattle.wasm_validate.specs.Context.{context}
pub use Rattle.wasm_validate.specs.Elements.{AreFirst, IsPutFrom, IsValid, from_place}
pub use Rattle.wasm_validate.specs.Ends.{ends_from}
pub use Rattle.wasm_validate.specs.View.{IsWhole, blocks_of, count_of, outer_of, view_of}
pub use Rattle.wasm_validate.specs.declared.blocks.Frame.{Frame}
pub use Rattle.wasm_validate.specs.declared.valid.ValidateFault.TheVariants.{Memory}
pub use Rattle.wasm_ast.specs.Events.{Else, End, Event, events, is_empty}
pub use Rattle.wasm_ast.specs.Locals.{total}
pub use Rattle.wasm_ast.specs.Numbering.{in_front, sequence}
pub use Rattle.wasm_ast.specs.Position.{sequence_at}
pub use Rattle.wasm_ast.specs.Sequence.{Block, Empty, If, Plain, Sequence}
pub use Rattle.wasm_ast.specs.Table.{last_put, or_else}
pub use Rattle.wasm_ast.specs.Typing.{Context, Operands, after, group_type, is_body, label_of, leaves, local_type, no_operands, pop_expected, pop_operands, push_operands, takes, typed, unreachable_operands}
pub use Rattle.wasm_ast.specs.TypingModule.{are_constant, are_different, are_functions, functions_of, globals_of, is_constant_instruction, is_element, is_global, is_segment, memories_of, tables_of}
pub use Rattle.wasm_ast.specs.declared.instr.BlockKind.{BlockKind}
pub use Rattle.wasm_ast.specs.declared.instr.Instr.{Instr}
pub use Rattle.wasm_ast.specs.declared.instr.VariableOp.TheVariants.{GlobalGet}
pub use Rattle.wasm_ast.specs.declared.locals.LocalGroup.{LocalGroup}
pub use Rattle.wasm_ast.specs.declared.module.Code.{Code}
pub use Rattle.wasm_ast.specs.declared.module.Export.{Export}
pub use Rattle.wasm_ast.specs.declared.module.GlobalVar.{GlobalVar}
pub use Rattle.wasm_ast.specs.declared.types.ValType.{ValType}
pub use Rattle.wasm_ast.specs.declared.types.ValType.TheVariants.{I32}
