-- Which modules link, and the program that one is (WebAssembly Core 1.0, 4.5.4). What the imports may be is this project's own.
use Rattle.std.specs.Prelude.{ℕ, ◌+◌, ◌==◌, nat_le, Bool, true, false, ◌&&◌, ◌||◌, not, if◌then◌else◌, length, slice_get, codes, filter_map, Option, None, is_some, option_and_then, Result, Ok, Err}
use Rattle.std.specs.List.{list_all, list_any}
use Rattle.std.specs.Str.{bytes_eq}
use Rattle.linear_memory.specs.LinearMemory.{is_within}
use Rattle.wasm_ast.specs.declared.instr.Instr.{Instr}
use Rattle.wasm_ast.specs.declared.instr.Instr.TheVariants as instr
use Rattle.wasm_ast.specs.declared.instr.Access.{Access}
use Rattle.wasm_ast.specs.declared.instr.Access.TheVariants.{Load, Store, Notify, Wait, AtomicLoad, AtomicStore, AtomicRmw, AtomicCompareExchange}
use Rattle.wasm_ast.specs.declared.module.ImportKind.{ImportKind}
use Rattle.wasm_ast.specs.declared.module.ImportKind.TheVariants as imported
use Rattle.wasm_ast.specs.declared.module.Import.{Import}
use Rattle.wasm_ast.specs.declared.module.Element.{Element}
use Rattle.wasm_ast.specs.declared.module.Segment.{Segment}
use Rattle.wasm_ast.specs.declared.module.Code.{Code}
use Rattle.wasm_ast.specs.declared.module.Module.{Module}
use Rattle.wasm_ast.specs.Sequence.{Sequence, Empty, Plain, Block, If}
use Rattle.wasm_ast.specs.TypingModule.{is_typed}
use Rattle.wasm_ast.specs.Table.{table_size, offset_value}
use Rattle.instance.specs.declared.fault.LoadFault.{LoadFault}
use Rattle.instance.specs.declared.fault.LoadFault.TheVariants.{Invalid, Unlinked, SegmentOutside, NotYet}
use Rattle.instance.specs.Calls.{call_number}
use Rattle.instance.specs.Program.{Program, main_function, memory_limits, empty_memory}

-- the call that an import is, where it is a function that is one
abbrev pub import_call : Module → Import → Option ℕ
import_call m i = of_kind i.kind where
  of_kind : ImportKind → Option ℕ
  of_kind (imported.Func of) = option_and_then (call_number i.module i.name) (slice_get m.types of)
  of_kind (imported.Table limits) = None
  of_kind (imported.Memory limits) = None
  of_kind (imported.Global of mutable) = None

abbrev pub is_host_memory : Import → Bool
is_host_memory i = of_kind i.kind where
  of_kind : ImportKind → Bool
  of_kind (imported.Func of) = false
  of_kind (imported.Table limits) = false
  of_kind (imported.Memory limits) = bytes_eq i.module (codes "env") && bytes_eq i.name (codes "memory")
  of_kind (imported.Global of mutable) = false

-- an import is a call with its type, or the memory `memory` of `env`
abbrev pub import_links : Module → Import → Bool
import_links m i = is_some (import_call m i) || is_host_memory i

-- each import links, and there is a function to begin with
abbrev pub links : Module → Bool
links m = list_all (import_links m) m.imports && is_some (main_function m)

-- the program that a module is whose imports link
abbrev pub program_of : Module → Program
program_of m = record { «module» = m; calls = filter_map (import_call m) m.imports }

-- ---- segments, which are all looked at before one is written

abbrev pub element_fits : Module → Element → Bool
element_fits m e = nat_le (offset_value m e.offset + length e.functions) (table_size m)

abbrev pub segment_fits : Module → Segment → Bool
segment_fits m s = is_within (empty_memory (memory_limits m)).bytes (offset_value m s.offset) (length s.bytes)

abbrev pub segments_fit : Module → Bool
segments_fit m = list_all (element_fits m) m.elements && list_all (segment_fits m) m.segments

-- ---- what the host answers today

-- `fd_write` and `proc_exit`
abbrev pub is_built : ℕ → Bool
is_built call = call == 17 || call == 37

abbrev pub is_wait_or_notify : Access → Bool
is_wait_or_notify (Load op) = false
is_wait_or_notify (Store of) = false
is_wait_or_notify Notify = true
is_wait_or_notify (Wait of) = true
is_wait_or_notify (AtomicLoad of) = false
is_wait_or_notify (AtomicStore of) = false
is_wait_or_notify (AtomicRmw op of) = false
is_wait_or_notify (AtomicCompareExchange of) = false

abbrev pub instruction_waits : Instr → Bool
instruction_waits (instr.Access op arg) = is_wait_or_notify op
instruction_waits _ = false

-- a wait or a notify stands in a sequence or in its blocks
abbrev pub waits : Sequence → Bool
waits Empty = false
waits (Plain i rest) = instruction_waits i || waits rest
waits (Block kind of body rest) = waits body || waits rest
waits (If of first second rest) = (waits first || waits second) || waits rest

-- a function waits or notifies: a constant expression doesn't
abbrev pub any_waits : Module → Bool
any_waits m = list_any (λ (c : Code). waits c.body) m.codes

-- each call is one that the host answers, and nothing waits or notifies
abbrev pub is_answered : Program → Bool
is_answered program = list_all is_built program.calls && not (any_waits program.module)

-- ---- the order of the faults of a module that was read

abbrev pub linked : Module → Result Program LoadFault
linked m =
    if not (is_typed m) then Err Invalid
    else if not (links m) then Err Unlinked
    else if not (segments_fit m) then Err SegmentOutside
    else if not (is_answered (program_of m)) then Err NotYet
    else Ok (program_of m)
