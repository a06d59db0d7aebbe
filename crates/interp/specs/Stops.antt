-- What a thread stops as.
use Rattle.std.specs.Prelude.{Option, Some, None, Result, Ok, Err}
use Rattle.int_ops.specs.declared.trap.Cause.{Cause}
use Rattle.wasm_steps.specs.Stepped.{Stepped, Next, Trapped, AtCall, AtWait, AtNotify, Finished, Stuck}
use Rattle.interp.specs.declared.stop.Stop.{Stop}
use Rattle.interp.specs.declared.stop.Stop.TheVariants as stop

-- Where a step is next, none. A thread of a typed module is never stuck.
abbrev pub stop_of : Stepped → Option Stop
stop_of (Next memory thread) = None
stop_of (Trapped cause) = Some (stop.Trap cause)
stop_of (AtCall function) = Some (stop.Call function)
stop_of (AtWait width at) = Some (stop.Wait width at)
stop_of (AtNotify at) = Some (stop.Notify at)
stop_of Finished = Some stop.Finished
stop_of Stuck = None

-- a trap, where what was to be is one
abbrev pub trap_of : {X : Type 0} → Result X Cause → Option Stop
trap_of (Ok x) = None
trap_of (Err cause) = Some (stop.Trap cause)
