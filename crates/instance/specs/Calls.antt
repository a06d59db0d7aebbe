-- The calls that a program may import, each listed once: those of WASI preview 1, with the standard's names and types, and
-- further ones, whose names, types and, for all of them, numbers are this project's own.
use Rattle.std.specs.Prelude.{ℕ, ◌==◌, Bool, true, false, ◌&&◌, if◌then◌else◌, List, [], ◌∷◌, ◌++◌, Option, Some, None, option_and_then, find, codes, replicate}
use Rattle.std.specs.List.{list_any}
use Rattle.std.specs.Str.{bytes_eq}
use Rattle.wasm_ast.specs.declared.types.ValType.{ValType}
use Rattle.wasm_ast.specs.declared.types.ValType.TheVariants.{I32, I64}
use Rattle.wasm_ast.specs.declared.types.FuncType.{FuncType}
use Rattle.wasm_ast.specs.Table.{same_types}

-- What ends a slice and is no row of the table has a number too. There is no such thread; the slice was spent; no fuel is left;
-- the next step traps; the last frame has returned.
abbrev pub no_call : ℕ
no_call = 0

abbrev pub spent : ℕ
spent = 1

abbrev pub out_of_fuel : ℕ
out_of_fuel = 2

abbrev pub trapped : ℕ
trapped = 3

abbrev pub last_return : ℕ
last_return = 4

-- the waits and the notify of the threads proposal, which are instructions
abbrev pub wait32 : ℕ
wait32 = 5

abbrev pub wait64 : ℕ
wait64 = 6

abbrev pub notify : ℕ
notify = 7

-- each of the names that answer nosys
abbrev pub nosys_call : ℕ
nosys_call = 8

-- A call: the module and the name by which it is imported, its number, the types of its parameters, and whether it has a
-- result, which is an i32.
pub record Call : Type 0 where
  pub from : List ℕ
  pub name : List ℕ
  pub number : ℕ
  pub params : List ValType
  pub gives : Bool

abbrev pub preview1 : List ℕ
preview1 = codes "wasi_snapshot_preview1"

abbrev pub wasix : List ℕ
wasix = codes "wasix_32v1"

-- so many i32
abbrev pub i32s : ℕ → List ValType
i32s n = replicate n I32

-- rows: calls that give an error number, and calls that don't return
abbrev pub wasi : List ℕ → ℕ → List ValType → Call
wasi name number params = record { from = preview1; name = name; number = number; params = params; gives = true }

abbrev pub further : List ℕ → ℕ → List ValType → Call
further name number params = record { from = wasix; name = name; number = number; params = params; gives = true }

abbrev pub ends : Call → Call
ends call = record call { gives = false }

abbrev pub wasi_calls : List Call
wasi_calls =
    wasi (codes "args_sizes_get") 10 (i32s 2)
    ∷ wasi (codes "args_get") 11 (i32s 2)
    ∷ wasi (codes "environ_sizes_get") 12 (i32s 2)
    ∷ wasi (codes "environ_get") 13 (i32s 2)
    ∷ wasi (codes "clock_time_get") 14 (I32 ∷ I64 ∷ I32 ∷ [])
    ∷ wasi (codes "fd_close") 15 (i32s 1)
    ∷ wasi (codes "fd_read") 16 (i32s 4)
    ∷ wasi (codes "fd_write") 17 (i32s 4)
    ∷ wasi (codes "fd_pread") 18 (I32 ∷ I32 ∷ I32 ∷ I64 ∷ I32 ∷ [])
    ∷ wasi (codes "fd_pwrite") 19 (I32 ∷ I32 ∷ I32 ∷ I64 ∷ I32 ∷ [])
    ∷ wasi (codes "fd_seek") 20 (I32 ∷ I64 ∷ I32 ∷ I32 ∷ [])
    ∷ wasi (codes "fd_tell") 21 (i32s 2)
    ∷ wasi (codes "fd_fdstat_get") 22 (i32s 2)
    ∷ wasi (codes "fd_fdstat_set_flags") 23 (i32s 2)
    ∷ wasi (codes "fd_filestat_get") 24 (i32s 2)
    ∷ wasi (codes "fd_filestat_set_size") 25 (I32 ∷ I64 ∷ [])
    ∷ wasi (codes "fd_prestat_get") 26 (i32s 2)
    ∷ wasi (codes "fd_prestat_dir_name") 27 (i32s 3)
    ∷ wasi (codes "fd_readdir") 28 (I32 ∷ I32 ∷ I32 ∷ I64 ∷ I32 ∷ [])
    ∷ wasi (codes "fd_renumber") 29 (i32s 2)
    ∷ wasi (codes "path_open") 30 (I32 ∷ I32 ∷ I32 ∷ I32 ∷ I32 ∷ I64 ∷ I64 ∷ I32 ∷ I32 ∷ [])
    ∷ wasi (codes "path_create_directory") 31 (i32s 3)
    ∷ wasi (codes "path_unlink_file") 32 (i32s 3)
    ∷ wasi (codes "path_remove_directory") 33 (i32s 3)
    ∷ wasi (codes "path_rename") 34 (i32s 6)
    ∷ wasi (codes "path_filestat_get") 35 (i32s 5)
    ∷ wasi (codes "poll_oneoff") 36 (i32s 4)
    ∷ ends (wasi (codes "proc_exit") 37 (i32s 1))
    ∷ wasi (codes "sched_yield") 38 []
    ∷ []

abbrev pub further_calls : List Call
further_calls =
    further (codes "fd_dup") 50 (i32s 2)
    ∷ further (codes "fd_pipe") 51 (i32s 2)
    ∷ further (codes "wx_fd_cloexec") 52 (i32s 2)
    ∷ further (codes "getcwd") 53 (i32s 3)
    ∷ further (codes "chdir") 54 (i32s 2)
    ∷ further (codes "proc_id") 55 (i32s 1)
    ∷ further (codes "proc_parent") 56 (i32s 1)
    ∷ further (codes "proc_fork") 57 (i32s 1)
    ∷ further (codes "proc_exec") 58 (i32s 4)
    ∷ further (codes "proc_spawn") 59 (i32s 5)
    ∷ further (codes "proc_join") 60 (i32s 3)
    ∷ further (codes "proc_signal") 61 (i32s 2)
    ∷ further (codes "thread_spawn") 62 (i32s 2)
    ∷ further (codes "thread_id") 63 (i32s 1)
    ∷ further (codes "thread_join") 64 (i32s 1)
    ∷ ends (further (codes "thread_exit") 65 (i32s 1))
    ∷ further (codes "thread_sleep") 66 (I64 ∷ [])
    ∷ further (codes "futex_wait") 67 (I32 ∷ I32 ∷ I64 ∷ I32 ∷ [])
    ∷ further (codes "futex_wake") 68 (i32s 3)
    ∷ further (codes "callback_signal") 69 (i32s 2)
    ∷ further (codes "wx_sig_action") 70 (i32s 2)
    ∷ further (codes "wx_sig_mask") 71 (I32 ∷ I64 ∷ I32 ∷ [])
    ∷ []

abbrev pub calls : List Call
calls = wasi_calls ++ further_calls

-- names of WASI preview 1 that are imported with any parameters and an i32 as the result, and answer nosys: one call for all
abbrev pub nosys_names : List (List ℕ)
nosys_names =
    codes "clock_res_get"
    ∷ codes "fd_advise"
    ∷ codes "fd_allocate"
    ∷ codes "fd_datasync"
    ∷ codes "fd_fdstat_set_rights"
    ∷ codes "fd_filestat_set_times"
    ∷ codes "fd_sync"
    ∷ codes "path_filestat_set_times"
    ∷ codes "path_link"
    ∷ codes "path_readlink"
    ∷ codes "path_symlink"
    ∷ codes "proc_raise"
    ∷ codes "random_get"
    ∷ codes "sock_accept"
    ∷ codes "sock_recv"
    ∷ codes "sock_send"
    ∷ codes "sock_shutdown"
    ∷ []

-- the row of a module and a name
abbrev pub is_named : List ℕ → List ℕ → Call → Bool
is_named from name call = bytes_eq call.from from && bytes_eq call.name name

abbrev pub call_named : List ℕ → List ℕ → Option Call
call_named from name = find (is_named from name) calls

-- the results of a call as types
abbrev pub results_of : Bool → List ValType
results_of gives = if gives then I32 ∷ [] else []

-- the row of a number
abbrev pub call_numbered : ℕ → Option Call
call_numbered number = find (λ (call : Call). call.number == number) calls

-- the type of a call
abbrev pub type_of_call : Call → FuncType
type_of_call call = record { params = call.params; results = results_of call.gives }

-- the number of a call, where a function's type is that of the call
abbrev pub number_with_type : FuncType → Call → Option ℕ
number_with_type of call = if same_types call.params of.params && same_types (results_of call.gives) of.results then Some call.number else None

abbrev pub is_nosys : List ℕ → List ℕ → Bool
is_nosys from name = bytes_eq preview1 from && list_any (λ known. bytes_eq known name) nosys_names

-- The number of the call that a function imported from this module, by this name and with this type, is; none where it is no
-- call, or one of another type.
abbrev pub call_number : List ℕ → List ℕ → FuncType → Option ℕ
call_number from name of =
    if is_nosys from name then (if same_types of.results (results_of true) then Some nosys_call else None)
    else option_and_then (number_with_type of) (call_named from name)
