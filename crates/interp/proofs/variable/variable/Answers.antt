use Rattle.interp.proofs.variable.variable.Goals as goal

pub returns-in-LocalGet : goal.returns-in-LocalGet
returns-in-LocalGet c = rw c.in-LocalGet.is c.local_get.ensures

pub returns-in-LocalSet : goal.returns-in-LocalSet
returns-in-LocalSet c = rw c.in-LocalSet.is c.local_set.ensures

pub returns-in-LocalTee : goal.returns-in-LocalTee
returns-in-LocalTee c = rw c.in-LocalTee.is c.local_tee.ensures

pub returns-in-GlobalGet : goal.returns-in-GlobalGet
returns-in-GlobalGet c = rw c.in-GlobalGet.is c.global_get.ensures

pub returns-in-GlobalSet : goal.returns-in-GlobalSet
returns-in-GlobalSet c = rw c.in-GlobalSet.is c.global_set.ensures
