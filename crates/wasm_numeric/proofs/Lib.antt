mod Extension
